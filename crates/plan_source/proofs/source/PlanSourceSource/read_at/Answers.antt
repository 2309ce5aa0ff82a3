-- A read that is said.
use Rattle.std.proofs.Common.{◌≡◌, ℕ, ◌≤◌, Bool, true, false, ◌&&◌, length, is_some, rules, refl, sym, ap, subst, ◌∙◌}
use Rattle.std.proofs.lemmas.Bool.{and_parts}
use Rattle.faulty_source.specs.declared.journal.ReadEntry.{ReadEntry}
use Rattle.faulty_source.specs.declared.source.Got.{Got}
use Rattle.faulty_source.specs.Got.{count_of, is_end}
use Rattle.plan_source.proofs.AnswerLemmas.{count_few, entry_seen, read_answers_by, seen_more}
use Rattle.plan_source.proofs.PrintingLemmas.{counted_by, more_by}
use Rattle.plan_source.proofs.source.PlanSourceSource.read_at.Goals as goal

pub invariant_of-self-2 : goal.invariant_of-self-2
invariant_of-self-2 g c =
    let self = c.args.self.now in
    let test = g.T.Tiles.statuses self.tiles in
    let idle : self.idle ≡ true = (and_parts self.opened self.idle c.requires.opened).1 in
    let none : is_some self.lost ≡ false = search rules in
    record {
      short = self.short;
      seen = seen_more self.length test self.entries.items c.reserve.new.self.items c.push.new.self.items _ self.seen
          c.reserve.ensures.items c.in-Ok-push.ensures.items
          (entry_seen self.length test c.args.pos (length c.args.buf.now) c.count.result c.is_end.result c.got_at-got.result
          c.got_at-got.ensures c.count.ensures c.is_end.ensures);
      printed = λ known on.
          more_by g.O.Origin.start (g.C.Console.state self.console.now) self.entries.items c.reserve.new.self.items
          self.lost none c.reserve.ensures.items (self.printed known idle) (g.C.Console.state c.say-self.new.console) _
          c.push.new.self.items c.say-self.result c.in-Ok-push.ensures.items c.say-self.ensures.printed;
      counted = counted_by self.lost c.say-self.result self.losses none self.counted c.say-self.ensures.counted;
    }

pub returns-clause-count : goal.returns-clause-count
returns-clause-count g c =
    let self = c.args.self.now in
    subst (λ (got : Got). count_of got ≤ length c.args.buf.now) (sym c.got_at-got.ensures)
    (count_few self.length (g.T.Tiles.statuses self.tiles) c.args.pos (length c.args.buf.now))

pub returns-clause-call : goal.returns-clause-call
returns-clause-call g c =
    let self = c.args.self.now in
    let idle : self.idle ≡ true = (and_parts self.opened self.idle c.requires.opened).1 in
    let entry : ReadEntry =
    record { pos = c.args.pos; asked = length c.args.buf.now; given = c.count.result; ended = c.is_end.result } in
    let is : entry ≡ record { pos = c.args.pos; asked = length c.args.buf.now; given = count_of c.got_at-got.result; ended = is_end c.got_at-got.result } =
    ap (λ (n : ℕ). record { pos = c.args.pos; asked = length c.args.buf.now; given = n; ended = c.is_end.result }) c.count.ensures
    ∙ ap (λ (b : Bool). record { pos = c.args.pos; asked = length c.args.buf.now; given = count_of c.got_at-got.result; ended = b })
    c.is_end.ensures in
    read_answers_by self.length (g.T.Tiles.statuses self.tiles) _ self.entries.items c.reserve.new.self.items
    c.push.new.self.items _ _ _ _ _ _ c.args.pos (length c.args.buf.now) c.args.buf.now c.fill.new.self
    c.got_at-got.result entry c.got_at-got.ensures is refl (c.fill.ensures.after (λ y e. e)) c.reserve.ensures.items
    c.in-Ok-push.ensures.items (ap (λ (b : Bool). self.opened && b) (sym idle))
