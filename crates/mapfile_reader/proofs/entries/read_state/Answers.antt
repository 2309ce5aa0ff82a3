-- A state within the limits wasn't cut, and one that was cut is above them.
use Rattle.std.proofs.Common.{◌<◌, ◌≤◌, ◌^◌, inl, inr, sym, ap, ◌∙◌, arith}
use Rattle.mapfile_text.specs.declared.read.MapError.TheVariants.{BadStatusLine, TooLarge}
use Rattle.mapfile_reader.proofs.EntryLemmas.{none_state, small_state, large_state}
use Rattle.mapfile_reader.proofs.entries.read_state.Goals as goal

pub returns-in-Ok-clause-state : goal.returns-in-Ok-clause-state
returns-in-Ok-clause-state c =
    let spelled = sym c.in-Some.is ∙ c.capped_state.ensures.state in
    let fits = c.in-Ok.ensures in
    let small : c.in-Ok.pass < 2 ^ 32 = omega (arith, fits.0, fits.1) in
    record {
      spells = rw fits.1 (small_state _ _ _ _ spelled c.if-pos-lt-LIMIT.true fits.0);
      pos = c.if-pos-lt-LIMIT.true;
      pass = small;
    }

pub returns-in_default-try_from-clause-fault : goal.returns-in_default-try_from-clause-fault
returns-in_default-try_from-clause-fault c =
    let spelled = sym c.in-Some.is ∙ c.capped_state.ensures.state in
    let found = large_state _ _ _ _ spelled (inl c.if-pos-lt-LIMIT.false) in
    inr (ap TooLarge c.number-number.ensures, found.0, found.1, found.2)

pub returns-in_default-try_from-2-clause-fault : goal.returns-in_default-try_from-2-clause-fault
returns-in_default-try_from-2-clause-fault c =
    let spelled = sym c.in-Some.is ∙ c.capped_state.ensures.state in
    let large : 2 ^ 32 ≤ c.in-Some.pass = omega (arith, c.in_default-try_from.ensures) in
    let found = large_state _ _ _ _ spelled (inr large) in
    inr (ap TooLarge c.number-number.ensures, found.0, found.1, found.2)

pub returns-in_default-clause-fault : goal.returns-in_default-clause-fault
returns-in_default-clause-fault c =
    inl (ap BadStatusLine c.number-number.ensures, none_state _ (sym c.in_default.is ∙ c.capped_state.ensures.state))
