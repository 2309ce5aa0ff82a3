-- The calls of a sweep that ended before its first piece are a first part of its opening and of reads of its mapfile.
use Rattle.std.proofs.Common.{◌≡◌, ◌⊎◌, ℕ, Bool, true, List, [], ◌++◌, map, Option, sym, ◌∙◌, inl, inr, subst}
use Rattle.std.proofs.lemmas.List.Elements.{All-nil}
use Rattle.crash_site.specs.declared.site.SiteCall.TheVariants.{MapRead}
use Rattle.crash_site.specs.Files.{File}
use Rattle.crash_site.specs.Calls.{Call, Entry, Done}
use Rattle.crash_site.specs.CallsMade.{BrokeAt}
use Rattle.rescue_rules.specs.Setting.{Setting}
use Rattle.rescue_rules.specs.Work.{AreMapReads}
use Rattle.rescue_rules.proofs.CutLemmas.{Cut, cut_all, cut_more}
use Rattle.rescue_rules.proofs.GoesLemmas.{broke_cut, front_cut}
use Rattle.rescue_rules.proofs.MapfileLemmas.{opening_by}
use Rattle.sweep_rules.specs.SweepOpens.{EndsEarly, InOpening, InLoad}
use Rattle.sweep_rules.proofs.EndLemmas.{opening_is}
use Rattle.program_promise.proofs.FrontLemmas.{IsMapRead, load_reads}

pub record EarlyCut (s : Setting) (makes : Bool) (calls : List Entry) : Type 0 where
  pub load : List Call
  pub reads : AreMapReads load
  pub cut : Cut (opening_by s makes ++ load) calls

all_or_broke : (all : List Call) (calls : List Entry) → (calls ≡ map Done all) ⊎ BrokeAt MapRead all [] calls
    → Cut all calls
all_or_broke all calls (inl is) = subst (λ (l : List Entry). Cut all l) (sym is) (cut_all all)
all_or_broke all calls (inr broke) = broke_cut MapRead [] all calls broke

pub early_cut : (s : Setting) (makes : Bool) (files : List ℕ → Option File) (calls : List Entry) → s.has_mapfile ≡ true
    → EndsEarly s makes files calls → EarlyCut s makes calls
early_cut s makes files calls on (InOpening front back is h) = record {
  load = [];
  reads = All-nil IsMapRead;
  cut = cut_more (opening_by s makes) [] calls
      (front_cut s makes front back calls (is ∙ opening_is s makes on) h);
}
early_cut s makes files calls on (InLoad load begins h) = record {
  load = load;
  reads = load_reads s.names.map (files s.names.map) load begins;
  cut = all_or_broke (opening_by s makes ++ load) calls
      (subst (λ (l : List Call). (calls ≡ map Done (l ++ load)) ⊎ BrokeAt MapRead (l ++ load) [] calls)
      (opening_is s makes on) h);
}
