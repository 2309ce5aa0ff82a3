use Rattle.std.proofs.Common.{◌≡◌, true, false, sym, subst, rules}
use Rattle.block_list.specs.declared.block.Range.{Range}
use Rattle.rescue_core.specs.declared.gather.Gathered.{Gathered}
use Rattle.transfer_token.specs.declared.fetch.Cut.{Cut}
use Rattle.transfer_token.specs.declared.fetch.Cut.TheVariants.{Whole}
use Rattle.rescue_core.specs.RunState.{run_of}
use Rattle.rescue_core.specs.TurnParts.{IsGathered}
use Rattle.rescue_core.proofs.running.Running.go_on_by_kind.Goals as goal
use Rattle.rescue_core.proofs.running.Running.go_on_by_kind.Goals.{in_default-via-in-Whole+then-eq+else-is_plain, in_default-via-in-Whole+else-eq, in_default-via-in-Part-1}

pub returns-in-Whole : goal.returns-in-Whole
returns-in-Whole g c = λ e is.
    let got = c.args.gathered in
    let plain : record {
      kept = Whole c.in-Whole.landed;
      turn = record got.turn { whole = true; slow = false; ended = false };
      after = got.after;
    } ≡ got = search rules in
    c.go_on.ensures e
    (subst (λ (x : Gathered). IsGathered c.args.request (run_of g.T.Tiles c.args.self.now) x e) (sym plain) is)

pub returns-in_default : goal.returns-in_default
returns-in_default g c = λ e is.
    let same : c.in_default-1.kept ≡ c.args.gathered.kept = elim c.in_default-1.branch [
      | in_default-via-in-Whole+then-eq+else-is_plain w ↦ let k = w.kept-is in cc
      | in_default-via-in-Whole+else-eq w ↦ let k = w.kept-is in cc
      | in_default-via-in-Part-1 w ↦ let k = w.kept-is in cc
    ] in
    c.go_on-in_default.ensures e
    (subst (λ (k : Cut Range). IsGathered c.args.request (run_of g.T.Tiles c.args.self.now)
    (record c.args.gathered { kept = k }) e)
    (sym same) is)
