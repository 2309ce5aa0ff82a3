-- What the puts of a plan's lines come to: a text on standard output, and a count that stays, or rises by one.
use Rattle.std.proofs.Common.{ℕ, true, IsTrue, List, [], ◌∷◌, ◌++◌, map, inl, inr, refl, sym, ap, subst, ◌∙◌, append_assoc}
use Rattle.std.proofs.lemmas.List.{append-nil}
use Rattle.block_list.specs.declared.status.Status.{Status}
use Rattle.fault_count.specs.Counts.{Rose, raised}
use Rattle.rescue_console.specs.declared.console.Channel.TheVariants.{Out}
use Rattle.rescue_console.specs.ConsoleState.{ConsoleState, Puts, TextGoesOn}
use Rattle.rescue_console.specs.Speaking.{SpeaksOn, out_pieces}
use Rattle.ddrescueplan_words.specs.Command.{Command}
use Rattle.plan_source.specs.Lines.{PlannedRead, line_of, lines_of}
use Rattle.plan_source.proofs.PrintingLemmas.{stays_more, stays_self}
use Rattle.rescue_plan.specs.Running.{PutsPlanBroken}

-- The lines were put, and no put failed.
pub lines_put : (reads : List PlannedRead) (a b : ConsoleState) → SpeaksOn (out_pieces (map line_of reads)) true true a b
    → Puts Out (lines_of reads) a b
lines_put [] a b says = subst (λ (x : ConsoleState). Puts Out [] a x) (sym says.1) (record {
  stays = stays_self a;
  whole = λ tells. sym (append-nil a.out.text);
  kept = refl;
  fed = λ scheduled. refl;
})
lines_put (r ∷ reads) a b (inr broken) = absurd (cc broken.0)
lines_put (r ∷ reads) a b (inl first) =
    let m : ConsoleState = first.0 in
    let p : Puts Out (line_of r) a m = first.1.puts in
    let q : Puts Out (lines_of reads) m b = lines_put reads m b first.2 in
    record {
      stays = stays_more a m b p.stays q.stays;
      whole = λ tells.
          q.whole (subst IsTrue (sym p.stays.keeps.tells) tells)
          ∙ ap (λ (t : List ℕ). t ++ lines_of reads) (p.whole tells)
          ∙ append_assoc a.out.text (line_of r) (lines_of reads);
      kept = q.kept ∙ p.kept;
      fed = λ scheduled. q.fed (subst IsTrue (sym p.stays.keeps.scheduled) scheduled) ∙ p.fed scheduled;
    }

-- A put failed after some lines.
module _ (c : Command) (test : List Status) (old new : ConsoleState) (p : PutsPlanBroken c test old new) where
  before : Puts Out (lines_of p.reads) old p.between
  before = lines_put p.reads old p.between p.says

  pub broken_part : IsTrue old.tells → TextGoesOn (line_of p.next) (old.out.text ++ lines_of p.reads) new.out.text
  broken_part tells =
      subst (λ (t : List ℕ). TextGoesOn (line_of p.next) t new.out.text) (before.whole tells)
      (p.breaks.puts.part (subst IsTrue (sym before.stays.keeps.tells) tells))

  pub broken_rose : Rose old.out.faults new.out.faults
  broken_rose = p.breaks.puts.rose ∙ ap raised before.kept
