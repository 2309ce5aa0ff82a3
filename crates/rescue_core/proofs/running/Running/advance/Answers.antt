use Rattle.std.proofs.Common.{◌≡◌, ap, refl, subst, sym, ◌∙◌, rules}
use Rattle.std.proofs.lemmas.Result.{err_from_is_err_and}
use Rattle.faulty_source.proofs.Keeping.{stays_self}
use Rattle.rescue_core.specs.declared.running.Running.{Running}
use Rattle.rescue_core.specs.RunState.{RunState, run_of, IsNext}
use Rattle.rescue_core.specs.Turning.{Starved}
use Rattle.rescue_core.proofs.KeeperLemmas.{alike_run}
use Rattle.rescue_core.proofs.TurnedLemmas.{gives_few, map_stays, advances, halts_same}
use Rattle.rescue_core.proofs.running.Running.advance.Goals as goal

pub returns-then-is_err-clause-halted : goal.returns-then-is_err-clause-halted
returns-then-is_err-clause-halted g c =
    Starved refl (map_stays g.T.Tiles c.args.self.now _ c.reserve.ensures.statuses) refl refl refl refl

pub returns-then-is_err-clause-run : goal.returns-then-is_err-clause-run
returns-then-is_err-clause-run g c =
    alike_run g.T.Tiles c.args.self.now _ (map_stays g.T.Tiles c.args.self.now _ c.reserve.ensures.statuses) refl
    c.requires.run.program refl c.requires.run

pub returns-then-is_err-clause-stays : goal.returns-then-is_err-clause-stays
returns-then-is_err-clause-stays g c = record {
  source = stays_self _;
  site = search rules;
  clock = search rules;
  console = refl;
}

pub gather-requires : goal.gather-requires
gather-requires g c =
    let same = map_stays g.T.Tiles c.args.self.now _ c.reserve.ensures.statuses in record {
      run = alike_run g.T.Tiles c.args.self.now _ same refl c.requires.run.program refl c.requires.run;
      request = subst (λ (q : RunState). IsNext q c.args.request) (sym same) c.requires.request;
      places = c.requires.places;
      «open» = c.requires.«open»;
    }

pub returns-in_err-gathered-clause-halted : goal.returns-in_err-gathered-clause-halted
returns-in_err-gathered-clause-halted g c =
    let same = map_stays g.T.Tiles c.args.self.now _ c.reserve.ensures.statuses in
    let stop = err_from_is_err_and c.from_residual.result c.from_residual.ensures.1 in
    rw (stop.1, stop.2)
    (halts_same c.args.request _ _ _ _ _ same (ap (run_of g.T.Tiles) c.gather.ensures.buffer ∙ same)
    c.in_err-gathered.ensures.halted)

pub returns-in_err-gathered-clause-run : goal.returns-in_err-gathered-clause-run
returns-in_err-gathered-clause-run g c =
    let same = map_stays g.T.Tiles c.args.self.now _ c.reserve.ensures.statuses in
    alike_run g.T.Tiles c.args.self.now c.gather.new.self (ap (run_of g.T.Tiles) c.gather.ensures.buffer ∙ same)
    c.gather.ensures.room
    (ap (λ (q : Running _). q.keeper.heading.program) c.gather.ensures.buffer ∙ c.requires.run.program)
    (ap (λ (q : Running _). q.counts) c.gather.ensures.buffer) c.requires.run

pub go_on_by_kind-requires-clause-gathered : goal.go_on_by_kind-requires-clause-gathered
go_on_by_kind-requires-clause-gathered g c =
    let same = map_stays g.T.Tiles c.args.self.now _ c.reserve.ensures.statuses in
    let after : run_of g.T.Tiles c.gather.new.self ≡ run_of g.T.Tiles c.args.self.now
    = ap (run_of g.T.Tiles) c.gather.ensures.buffer ∙ same in
    let got = c.in_ok-gathered.ensures.gathered in record {
      run = alike_run g.T.Tiles c.args.self.now c.gather.new.self after c.gather.ensures.room
          (ap (λ (q : Running _). q.keeper.heading.program) c.gather.ensures.buffer ∙ c.requires.run.program)
          (ap (λ (q : Running _). q.counts) c.gather.ensures.buffer) c.requires.run;
      next = subst (λ (q : RunState). IsNext q c.args.request) (sym after) c.requires.request;
      spans = c.in_ok-gathered.ensures.parts;
      given = gives_few c.args.request _ _ got.event got.gathered;
    }

pub returns-clause-advanced : goal.returns-clause-advanced
returns-clause-advanced g c =
    let same = map_stays g.T.Tiles c.args.self.now _ c.reserve.ensures.statuses in
    (advances c.args.request _ _ _ _ _ _ _ _ same (ap (run_of g.T.Tiles) c.gather.ensures.buffer ∙ same)
    c.in_ok-gathered.ensures.gathered c.go_on_by_kind.ensures).0

pub returns-clause-run : goal.returns-clause-run
returns-clause-run g c =
    let same = map_stays g.T.Tiles c.args.self.now _ c.reserve.ensures.statuses in
    (advances c.args.request _ _ _ _ _ _ _ _ same (ap (run_of g.T.Tiles) c.gather.ensures.buffer ∙ same)
    c.in_ok-gathered.ensures.gathered c.go_on_by_kind.ensures).1
