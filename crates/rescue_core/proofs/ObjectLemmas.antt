-- What a clock told, and what was done on files and a console, over two steps, one after another.
use Rattle.std.proofs.Common.{◌≡◌, ℕ, Bool, List, [], ◌++◌, refl, sym, ap, subst, ◌∙◌, append_assoc, append-nil}
use Rattle.std.proofs.lemmas.List.{map-append}
use Rattle.crash_site.specs.Calls.{Call}
use Rattle.crash_site.specs.SiteState.{SiteState}
use Rattle.crash_site.specs.SiteChanges.{Makes}
use Rattle.mapfile_save.proofs.CallLemmas.{made_more}
use Rattle.rescue_console.specs.declared.console.Channel.TheVariants.{Out}
use Rattle.rescue_console.specs.ClockState.{ClockState, Keeps as ClockKeeps, Reads as ReadsClock}
use Rattle.rescue_console.specs.ConsoleState.{ConsoleState}
use Rattle.rescue_console.specs.Speaking.{SpokenPiece, SpeaksOn, out_pieces}
use Rattle.rescue_core.specs.declared.outside.Outside.{Outside}
use Rattle.rescue_core.specs.Outside.{AreSame}
use Rattle.rescue_console.proofs.SpeakingLemmas.{speeches_join}

pub same_on : {S D K C : Type 0} {a b c : Outside S D K C} → AreSame a b → AreSame b c → AreSame a c
same_on f g = record {
  source = g.source ∙ f.source;
  site = g.site ∙ f.site;
  clock = g.clock ∙ f.clock;
  console = g.console ∙ f.console;
}

pub clock_self : (a : ClockState) → ClockKeeps a a
clock_self a = record { scheduled = refl; schedule = refl }

pub clock_keeps : (a b c : ClockState) → ClockKeeps a b → ClockKeeps b c → ClockKeeps a c
clock_keeps a b c f g = record { scheduled = g.scheduled ∙ f.scheduled; schedule = g.schedule ∙ f.schedule }

pub timed_none : (a : ClockState) → ReadsClock [] a a
timed_none a = record { tells = λ now. now; told = λ now. sym (append-nil a.readings) }

pub timed_more : (xs ys : List ℕ) (a b c : ClockState) → ReadsClock xs a b → ReadsClock ys b c → ReadsClock (xs ++ ys) a c
timed_more xs ys a b c f g = record {
  tells = λ now. f.tells (g.tells now);
  told = λ now. g.told now ∙ ap (λ (r : List ℕ). r ++ ys) (f.told (g.tells now)) ∙ append_assoc a.readings xs ys;
}

pub makes_none : (a : SiteState) → Makes [] a a
makes_none a = record { made = λ tells. sym (append-nil a.calls); faults = refl }

pub makes_more : (xs ys : List Call) (a b c : SiteState) → b.tells ≡ a.tells → Makes xs a b → Makes ys b c → Makes (xs ++ ys) a c
makes_more xs ys a b c same f g = record {
  made = λ tells. made_more a.calls b.calls c.calls xs ys (f.made tells) (g.made (rw same tells));
  faults = g.faults ∙ f.faults;
}

abbrev pub out_piece : List ℕ → SpokenPiece
out_piece text = record { channel = Out; text = text }

pub says_more : (front back : List (List ℕ)) (h h1 h2 : Bool) (x y z : ConsoleState) → SpeaksOn (out_pieces front) h h1 x y
    → SpeaksOn (out_pieces back) h1 h2 y z → SpeaksOn (out_pieces (front ++ back)) h h2 x z
says_more front back h h1 h2 x y z f g =
    subst (λ (ps : List SpokenPiece). SpeaksOn ps h h2 x z) (sym (map-append out_piece front back))
    (speeches_join (out_pieces front) (out_pieces back) h h1 h2 x y z f g)
