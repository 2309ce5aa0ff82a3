-- The line goes on with its part of the bytes; a whole one is put.
use Rattle.std.proofs.Common.{◌≡◌, ◌-◌, ◌++◌, ◌∙◌, Bool, true, false, not, List, ℕ, take, refl, sym, ap, arith}
use Rattle.std.proofs.lemmas.Result.{err_from_is_err_and}
use Rattle.ddrescueshow_cli.specs.FollowSteps.{stage_of}
use Rattle.ddrescueshow_cli.proofs.FollowLemmas.{keeps_part, puts_line, stops_unheld, stops_unput, unfinished_with, whole_with}
use Rattle.ddrescueshow_cli.proofs.follower.Follower.add.Goals as goal

is_whole : (b : Bool) → not b ≡ false → b ≡ true
is_whole true is = refl
is_whole false is = sym is

is_not : (b : Bool) → not b ≡ true → b ≡ false
is_not true is = sym is
is_not false is = refl

pub returns-in_default-clause-stops : goal.returns-in_default-clause-stops
returns-in_default-clause-stops g c =
    stops_unheld c.args.self.now.teller.terminal c.args.bytes.now
    (stage_of c.args.self.now (g.P.Console.state c.args.console.now))

pub returns-then-not-part-clause-goes : goal.returns-then-not-part-clause-goes
returns-then-not-part-clause-goes g c =
    let line : List ℕ = c.args.self.now.line.items in
    keeps_part _ c.args.self.now _ (g.P.Console.state c.args.console.now) refl
    (c.in-Ok.ensures.items ∙ ap (λ (p : List ℕ). line ++ p) c.split_at.ensures.front)
    (unfinished_with line c.args.bytes.now c.part_of-part.result.len (4096 - c.len.result) c.part_of-part.result.whole c.requires.unfinished
    c.part_of-part.ensures.within (omega (arith, c.args.self.now.line.ok.0, c.len.ensures)) c.part_of-part.ensures.part
    (is_not _ c.if-not-part.true))

pub returns-in_err-put_line-clause-stops : goal.returns-in_err-put_line-clause-stops
returns-in_err-put_line-clause-stops g c =
    let line : List ℕ = c.args.self.now.line.items in
    let n : ℕ = c.part_of-part.result.len in
    let is : c.deref.result.now ≡ line ++ take n c.args.bytes.now =
    c.deref.ensures.value ∙ c.in-Ok.ensures.items ∙ ap (λ (p : List ℕ). line ++ p) c.split_at.ensures.front in
    let p = err_from_is_err_and c.from_residual.result c.from_residual.ensures.1 in
    rw (p.1, p.2)
    (stops_unput c.args.self.now.teller.terminal c.args.bytes.now c.deref.result.now n _
    (stage_of c.args.self.now (g.P.Console.state c.args.console.now)) _
    (whole_with line c.args.bytes.now _ n (4096 - c.len.result) c.part_of-part.result.whole c.requires.unfinished c.part_of-part.ensures.within
    (omega (arith, c.args.self.now.line.ok.0, c.len.ensures)) is c.part_of-part.ensures.part (is_whole _ c.if-not-part.false))
    is c.in_err-put_line.ensures.loses)

pub returns-clause-goes : goal.returns-clause-goes
returns-clause-goes g c =
    let line : List ℕ = c.args.self.now.line.items in
    let n : ℕ = c.part_of-part.result.len in
    let is : c.deref.result.now ≡ line ++ take n c.args.bytes.now =
    c.deref.ensures.value ∙ c.in-Ok.ensures.items ∙ ap (λ (p : List ℕ). line ++ p) c.split_at.ensures.front in
    puts_line _ c.deref.result.now c.args.self.now _ (g.P.Console.state c.args.console.now) _
    c.in_ok-put_line.ensures.terminal c.clear.ensures.items is
    (whole_with line c.args.bytes.now _ n (4096 - c.len.result) c.part_of-part.result.whole c.requires.unfinished c.part_of-part.ensures.within
    (omega (arith, c.args.self.now.line.ok.0, c.len.ensures)) is c.part_of-part.ensures.part (is_whole _ c.if-not-part.false))
    c.in_ok-put_line.ensures.puts
