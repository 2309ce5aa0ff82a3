use Rattle.std.proofs.Common.{ℕ, refl, ◌∷◌, [], ◌++◌, ◌∙◌, ap, ◌+◌, length, slice_range, append_assoc, rules}
use Rattle.faulty_source.specs.SourceState.{SourceState}
use Rattle.rescue_console.specs.ClockState.{ClockState, Reads}
use Rattle.rescue_core.proofs.timed.read_timed.Goals as goal

-- two readings of the clock
reads_both : (x y : ℕ) (a b c : ClockState) → Reads (x ∷ []) a b → Reads (y ∷ []) b c → Reads (x ∷ y ∷ []) a c
reads_both x y a b c f g = record {
  tells = λ t. f.tells (g.tells t);
  told = λ t. g.told t ∙ ap (λ ts. ts ++ y ∷ []) (f.told (g.tells t)) ∙ append_assoc a.readings (x ∷ []) (y ∷ []);
}

pub returns-clause-timed : goal.returns-clause-timed
returns-clause-timed g c =
    let f = c.in_ok-got.ensures.fetched in
    let source : SourceState = g.S.Source.state c.args.source.now in
    record {
      event = record { reading = f.reading; before = c.now_ms-before.result; after = c.now_ms-after.result };
      is = record {
        pos = f.pos;
        asked = f.asked;
        few = f.few;
        ends = f.ends;
        right = λ tells. f.right tells ∙ ap (λ p. slice_range source.bytes p (p + length f.reading.given)) f.pos;
        read = f.read;
        times = reads_both c.now_ms-before.result c.now_ms-after.result (g.K.Clock.state c.args.clock.now)
            (g.K.Clock.state c.now_ms-before.new.self) (g.K.Clock.state c.now_ms-after.new.self)
            c.now_ms-before.ensures.told c.now_ms-after.ensures.told;
        before = search rules;
        after = search rules;
      };
      count = f.count;
      ended = f.ended;
      before = refl;
      after = refl;
      cut = f.cut;
      front = f.front;
    }

pub returns-clause-parts : goal.returns-clause-parts
returns-clause-parts g c = c.in_ok-got.ensures.fetched.spans
