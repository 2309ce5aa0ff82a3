use Rattle.std.proofs.Common.{◌≡◌, ◌&&◌, Bool, true, false, Some, ap, sym, refl, ◌∙◌, arith}
use Rattle.std.proofs.lemmas.Str.Pattern.{split_parts}
use Rattle.block_list.specs.Types.{is_types}
use Rattle.map_algebra.proofs.ChangeLemmas.{no_change, change_there, none_there}
use Rattle.map_algebra.proofs.change.TypeChange.read.Goals as goal
use Rattle.map_algebra.proofs.change.TypeChange.read.Goals.{else-are_types-via-then-are_types+else-are_types-2, else-are_types-via-else-are_types}

and_false : (b : Bool) → (b && false) ≡ false
and_false true = refl
and_false false = refl

pub returns-in_default : goal.returns-in_default
returns-in_default c =
    let h = rw c.in_default.is at (split_parts 44 c.args.text.now c.split_once.result c.split_once.ensures.cases (omega arith)) in
    sym (no_change c.args.text.now h)

pub returns-then-are_types-2 : goal.returns-then-are_types-2
returns-then-are_types-2 c =
    let h = rw c.in-Some.is at (split_parts 44 c.args.text.now c.split_once.result c.split_once.ensures.cases (omega arith)) in
    let old = sym c.are_types.ensures ∙ c.if-are_types.true in
    let new = sym c.are_types-then-are_types.ensures ∙ c.if-are_types-2.true in
    ap Some (rw (c.change_by.ensures, c.as_bytes.ensures.value, c.as_bytes-then-are_types-2.ensures.value))
    ∙ sym (change_there c.in-Some.old.now c.in-Some.new.now c.args.text.now h.0 h.1 old new)

pub returns-else-are_types : goal.returns-else-are_types
returns-else-are_types c =
    let h = rw c.in-Some.is at (split_parts 44 c.args.text.now c.split_once.result c.split_once.ensures.cases (omega arith)) in
    let none : (is_types c.in-Some.old.now && is_types c.in-Some.new.now) ≡ false =
    elim c.else-are_types.branch [
      | else-are_types-via-then-are_types+else-are_types-2 w ↦
          ap (λ b. is_types c.in-Some.old.now && b) (sym w.are_types-then-are_types.ensures ∙ w.if-are_types-2.false)
          ∙ and_false (is_types c.in-Some.old.now)
      | else-are_types-via-else-are_types w ↦
          ap (λ b. b && is_types c.in-Some.new.now) (sym c.are_types.ensures ∙ w.if-are_types.false)
    ] in
    sym (none_there c.in-Some.old.now c.in-Some.new.now c.args.text.now h.0 h.1 none)
