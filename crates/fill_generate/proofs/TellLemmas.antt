-- What the objects tell across two things that are done one after the other.
use Rattle.std.proofs.Common.{map, ◌≡◌, true, List, ◌++◌, sym, ap, subst, ◌∙◌, append_assoc}
use Rattle.std.proofs.lemmas.List.{map-append}
use Rattle.crash_site.specs.declared.site.SiteCall.{SiteCall}
use Rattle.crash_site.specs.Calls.{Call, Entry, Done}
use Rattle.crash_site.specs.CallsMade.{BrokeAt}
use Rattle.crash_site.specs.SiteState.{SiteState}
use Rattle.crash_site.specs.SiteChanges.{Makes, Breaks}
use Rattle.faulty_source.proofs.Keeping.{stays_self}
use Rattle.mapfile_save.specs.Saving.{IsNameIn}
use Rattle.mapfile_save.proofs.FillLemmas.{keeps_self, keeps_more}
use Rattle.rescue_console.specs.ClockState.{ClockState}
use Rattle.rescue_console.specs.ConsoleState.{ConsoleState}
use Rattle.rescue_core.proofs.ObjectLemmas.{clock_self, clock_keeps}
use Rattle.rescue_rules.specs.Across.{ObjectsStay, no_source}
use Rattle.fill_generate.specs.Sweeping.{around, BreaksAfter}

-- calls that broke off after ones that were made
pub breaks_after : (at : SiteCall) (xs ys : List Call) (a b c : SiteState) → b.tells ≡ a.tells → Makes xs a b → IsNameIn at ys
    → Breaks at ys b c → BreaksAfter at xs ys a c
breaks_after at xs ys a b c same f named g = record {
  named = named;
  broke = λ tells. subst (λ (es : List Entry). BrokeAt at ys es c.calls) (f.made tells) (g.broke (rw same tells));
  rose = rw (← f.faults) g.rose;
}

pub breaks_more : (at : SiteCall) (xs ys zs : List Call) (a b c : SiteState) → b.tells ≡ a.tells → Makes xs a b
    → BreaksAfter at ys zs b c → BreaksAfter at (xs ++ ys) zs a c
breaks_more at xs ys zs a b c same f g = record {
  named = g.named;
  broke = λ tells. subst (λ (es : List Entry). BrokeAt at zs es c.calls)
      (ap (λ (es : List Entry). es ++ map Done ys) (f.made tells) ∙ append_assoc a.calls (map Done xs) (map Done ys)
      ∙ ap (λ (es : List Entry). a.calls ++ es) (sym (map-append Done xs ys))) (g.broke (rw same tells));
  rose = rw (← f.faults) g.rose;
}

pub objects_self : (d : SiteState) (k : ClockState) (x : ConsoleState) → d.is_open ≡ true → ObjectsStay (around d d k k x x)
objects_self d k x image =
    record { source = stays_self no_source; site = keeps_self d; image = image; clock = clock_self k }

pub objects_stay : (d e f : SiteState) (k l n : ClockState) (x y z : ConsoleState) → ObjectsStay (around d e k l x y)
    → ObjectsStay (around e f l n y z) → ObjectsStay (around d f k n x z)
objects_stay d e f k l n x y z i j = record {
  source = stays_self no_source;
  site = keeps_more d e f i.site j.site;
  image = j.image;
  clock = clock_keeps k l n i.clock j.clock;
}
