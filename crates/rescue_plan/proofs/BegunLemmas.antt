-- What the run of a plan put is a beginning of the plan's lines.
use Rattle.std.proofs.Common.{◌≡◌, ℕ, IsTrue, List, [], ◌∷◌, ◌++◌, sym, ap, ◌∙◌, append_assoc}
use Rattle.std.proofs.lemmas.List.{append-nil}
use Rattle.std.proofs.lemmas.Grind.{flat_map-append}
use Rattle.block_list.specs.declared.status.Status.{Status}
use Rattle.rescue_console.specs.ConsoleState.{ConsoleState, TextGoesOn}
use Rattle.ddrescueplan_words.specs.Command.{Command, ArePlain}
use Rattle.plan_source.specs.Lines.{PlannedRead, line_of, lines_of}
use Rattle.plan_source.specs.declared.loss.PlanLoss.TheVariants.{Memory, Console}
use Rattle.rescue_plan.specs.declared.run.PlanEnd.{PlanEnd}
use Rattle.rescue_plan.specs.declared.run.PlanEnd.TheVariants.{Whole, Lost}
use Rattle.rescue_plan.specs.Plan.{IsPlan, plan_setting}
use Rattle.rescue_plan.specs.Running.{PutsPlan, PutsFirst, PutsPlanBroken}
use Rattle.rescue_plan.specs.Laws.{AreUnlimited, PlanIsBegun}
use Rattle.rescue_plan.proofs.PlanLemmas.{begin_with, limits_none, plan_is_one}
use Rattle.rescue_plan.proofs.PutLemmas.{broken_part, lines_put}

lines_after : (first more : List PlannedRead) → lines_of (first ++ more) ≡ lines_of first ++ lines_of more
lines_after first more = flat_map-append line_of first more

module _ (c : Command) (test : List Status) (old new : ConsoleState) (reads : List PlannedRead)
    (plain : ArePlain c.options.rescue) (plan : IsPlan (plan_setting c.options.rescue c.length) c.length test reads)
    (tells : IsTrue old.tells) where
  abbrev Begun : Type 0
  Begun = TextGoesOn (lines_of reads) old.out.text new.out.text

  unbounded : AreUnlimited c.options.rescue
  unbounded = limits_none c.options.rescue plain

  first_begun : PutsFirst c test old new → Begun
  first_begun p =
      let b = begin_with c.options.rescue c.length test p.reads reads unbounded p.first plan in
      record {
        part = lines_of p.reads;
        left = lines_of b.more;
        split = sym (lines_after p.reads b.more) ∙ ap lines_of b.are;
        is = (lines_put p.reads old new p.says).whole tells;
      }

  broken_begun : PutsPlanBroken c test old new → Begun
  broken_begun p =
      let b = begin_with c.options.rescue c.length test (p.reads ++ p.next ∷ []) reads unbounded p.first plan in
      let g = broken_part c test old new p tells in
      let rest : List ℕ = lines_of b.more in
      let next : lines_of (p.reads ++ p.next ∷ []) ≡ lines_of p.reads ++ line_of p.next =
      lines_after p.reads (p.next ∷ []) ∙ ap (λ (t : List ℕ). lines_of p.reads ++ t) (append-nil (line_of p.next)) in
      let all : lines_of reads ≡ (lines_of p.reads ++ line_of p.next) ++ rest =
      ap lines_of (sym b.are) ∙ lines_after (p.reads ++ p.next ∷ []) b.more ∙ ap (λ (t : List ℕ). t ++ rest) next in
      record {
        part = lines_of p.reads ++ g.part;
        left = g.left ++ rest;
        split = sym (append_assoc (lines_of p.reads ++ g.part) g.left rest)
            ∙ ap (λ (t : List ℕ). t ++ rest) (append_assoc (lines_of p.reads) g.part g.left
            ∙ ap (λ (t : List ℕ). lines_of p.reads ++ t) g.split)
            ∙ sym all;
        is = g.is ∙ append_assoc old.out.text (lines_of p.reads) g.part;
      }

  by_end : (end : PlanEnd) → PutsPlan c test end old new → Begun
  by_end Whole p = record {
    part = lines_of p.reads;
    left = [];
    split = append-nil (lines_of p.reads)
        ∙ ap lines_of ((plan_is_one c.options.rescue c.length test reads unbounded plan).alone p.reads p.plan);
    is = (lines_put p.reads old new p.says).whole tells;
  }
  by_end (Lost Memory) p = first_begun p
  by_end (Lost Console) p = broken_begun p

pub plan_is_begun : PlanIsBegun
plan_is_begun c test end old new reads plain puts plan tells = by_end c test old new reads plain plan tells end puts
