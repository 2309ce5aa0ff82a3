use Rattle.std.proofs.Common.{sym, subst, ◌∙◌}
use Rattle.std.proofs.lemmas.Result.{err_from_is_err_and}
use Rattle.mapfile_save.proofs.FillLemmas.{keeps_more}
use Rattle.rescue_domain.specs.Parts.{covers}
use Rattle.run_options.specs.Settings.{HasPlaces}
use Rattle.rescue_core.specs.RunState.{RunState, run_of, IsNext}
use Rattle.rescue_core.specs.Stages.{Known}
use Rattle.rescue_core.proofs.StageLemmas.{known_halted, known_on}
use Rattle.rescue_core.proofs.TurnEndLemmas.{says_limited, says_turned, says_unsaved}
use Rattle.rescue_core.proofs.phases.Rescue.turn.Goals as goal

pub advance-requires : goal.advance-requires
advance-requires g c = record {
  run = c.self.invariant.0;
  request = subst (λ (q : RunState). IsNext q c.args.request) (sym c.self.view_is) c.requires.request;
  places = subst (λ (q : RunState). HasPlaces q.settings (covers q.domain)) (sym c.self.view_is) c.requires.places;
  «open» = c.requires.«open»;
}

pub invariant_of-self : goal.invariant_of-self
invariant_of-self g c =
    let is = c.self.invariant.0.running in
    let asks = subst (λ (q : RunState). IsNext q c.args.request) (sym c.self.view_is) c.requires.request in (
      c.advance.ensures.run,
      known_halted g.P.Stage.reached c.args.request _ _ _ _ _ is asks c.in_err-turn.ensures.halted c.self.invariant.1,
    )

pub invariant_of-self-in-Some : goal.invariant_of-self-in-Some
invariant_of-self-in-Some g c =
    let is = c.self.invariant.0.running in
    let asks = subst (λ (q : RunState). IsNext q c.args.request) (sym c.self.view_is) c.requires.request in (
      c.say_due.ensures.run,
      known_on g.P.Stage.reached c.args.request _ _ _ _ _ _ is asks c.in_ok-turn.ensures.advanced
          c.say_due.ensures.stands c.self.invariant.1,
    )

pub invariant_of-self-in-Err : goal.invariant_of-self-in-Err
invariant_of-self-in-Err g c =
    let is = c.self.invariant.0.running in
    let asks = subst (λ (q : RunState). IsNext q c.args.request) (sym c.self.view_is) c.requires.request in (
      c.save_due.ensures.run,
      subst (Known g.P.Stage.reached) (sym c.save_due.ensures.stands)
          (known_on g.P.Stage.reached c.args.request _ _ _ _ _ _ is asks c.in_ok-turn.ensures.advanced
          c.say_due.ensures.stands c.self.invariant.1),
    )

pub invariant_of-self-2 : goal.invariant_of-self-2
invariant_of-self-2 g c =
    let is = c.self.invariant.0.running in
    let asks = subst (λ (q : RunState). IsNext q c.args.request) (sym c.self.view_is) c.requires.request in (
      c.save_due.ensures.run,
      subst (Known g.P.Stage.reached) (sym c.save_due.ensures.stands)
          (known_on g.P.Stage.reached c.args.request _ _ _ _ _ _ is asks c.in_ok-turn.ensures.advanced
          c.say_due.ensures.stands c.self.invariant.1),
    )

pub returns-in_err-turn-clause-halted : goal.returns-in_err-turn-clause-halted
returns-in_err-turn-clause-halted g c =
    let stop = err_from_is_err_and c.from_residual.result c.from_residual.ensures.1 in
    rw (stop.1, stop.2, ← c.self.view_is) c.in_err-turn.ensures.halted

pub returns-in-Some-clause-halted : goal.returns-in-Some-clause-halted
returns-in-Some-clause-halted g c =
    let t = g.T.Tiles in
    rw (← c.self.view_is)
    (says_limited c.args.request c.in_ok-turn.field-0 (run_of t c.self.inside.running) (run_of t c.advance.new.self)
    (run_of t c.say_due.new.self) _ c.in-Some.limit
    (record {
      console1 = g.C.Console.state c.advance.new.outside.console.now;
      silent = c.advance.ensures.stays.console;
      advances = c.in_ok-turn.ensures.advanced;
      keeps = c.advance.ensures.stays.site.keeps;
      stands = c.say_due.ensures.stands;
      says = c.say_due.ensures.says;
    }) (sym c.in-Some.ensures))

pub returns-in-Err-clause-halted : goal.returns-in-Err-clause-halted
returns-in-Err-clause-halted g c =
    let t = g.T.Tiles in
    rw (← c.self.view_is)
    (says_unsaved c.args.request c.in_ok-turn.field-0 (run_of t c.self.inside.running) (run_of t c.advance.new.self)
    (run_of t c.say_due.new.self) (run_of t c.save_due.new.self) _
    (g.D.Site.state c.advance.new.outside.site.now) _
    (record {
      console1 = g.C.Console.state c.advance.new.outside.console.now;
      silent = c.advance.ensures.stays.console;
      advances = c.in_ok-turn.ensures.advanced;
      keeps = c.advance.ensures.stays.site.keeps;
      stands = c.say_due.ensures.stands;
      says = c.say_due.ensures.says;
    }) (sym c.in_default.ensures) c.save_due.ensures.stands c.in-Err.ensures.call.named c.in-Err.ensures.call.broke)

pub returns-clause-turned : goal.returns-clause-turned
returns-clause-turned g c =
    let t = g.T.Tiles in
    rw (← c.self.view_is)
    (says_turned c.args.request c.in_ok-turn.field-0 (run_of t c.self.inside.running) (run_of t c.advance.new.self)
    (run_of t c.say_due.new.self) (run_of t c.save_due.new.self) _
    (g.D.Site.state c.advance.new.outside.site.now)
    (record {
      console1 = g.C.Console.state c.advance.new.outside.console.now;
      silent = c.advance.ensures.stays.console;
      advances = c.in_ok-turn.ensures.advanced;
      keeps = c.advance.ensures.stays.site.keeps;
      stands = c.say_due.ensures.stands;
      says = c.say_due.ensures.says;
    }) (sym c.in_default.ensures) c.save_due.ensures.stands c.in_default-save_due.ensures.call.made)

pub returns-in_err-turn-clause-objects : goal.returns-in_err-turn-clause-objects
returns-in_err-turn-clause-objects g c = record {
  source = c.advance.ensures.stays.source;
  site = c.advance.ensures.stays.site.keeps;
  image = c.advance.ensures.stays.site.image ∙ c.requires.«open».image;
  clock = c.advance.ensures.stays.clock;
}

pub returns-in-Some-clause-objects : goal.returns-in-Some-clause-objects
returns-in-Some-clause-objects g c = record {
  source = c.advance.ensures.stays.source;
  site = c.advance.ensures.stays.site.keeps;
  image = c.advance.ensures.stays.site.image ∙ c.requires.«open».image;
  clock = c.advance.ensures.stays.clock;
}

pub returns-in-Err-clause-objects : goal.returns-in-Err-clause-objects
returns-in-Err-clause-objects g c = record {
  source = c.advance.ensures.stays.source;
  site = keeps_more _ _ _ c.advance.ensures.stays.site.keeps c.save_due.ensures.call.keeps;
  image = c.save_due.ensures.call.image ∙ c.advance.ensures.stays.site.image ∙ c.requires.«open».image;
  clock = c.advance.ensures.stays.clock;
}

pub returns-clause-objects : goal.returns-clause-objects
returns-clause-objects g c = record {
  source = c.advance.ensures.stays.source;
  site = keeps_more _ _ _ c.advance.ensures.stays.site.keeps c.save_due.ensures.call.keeps;
  image = c.save_due.ensures.call.image ∙ c.advance.ensures.stays.site.image ∙ c.requires.«open».image;
  clock = c.advance.ensures.stays.clock;
}
