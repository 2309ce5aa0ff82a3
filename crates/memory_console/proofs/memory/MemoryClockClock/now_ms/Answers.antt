use Rattle.std.proofs.Common.{rules, sym, ap, ◌∙◌, ◌++◌, ◌∷◌, []}
use Rattle.std.proofs.lemmas.List.FromFn.{length-map-range_with_len}
use Rattle.rescue_console.specs.ClockState.{reading_at}
use Rattle.memory_console.proofs.ClockLemmas.{first_readings, first_readings-more}
use Rattle.memory_console.proofs.memory.MemoryClockClock.now_ms.Goals as goal

pub returns : goal.returns
returns c =
    let count = length-map-range_with_len (reading_at c.args.self.now.schedule.items) 0 c.args.self.now.made in
    record {
      keeps = search rules;
      told = record {
        tells = λ t. search rules;
        told = λ t. first_readings-more c.args.self.now.schedule.items c.args.self.now.made c.saturating_add-self.result (search rules)
            ∙ ap (λ n. first_readings c.args.self.now.schedule.items c.args.self.now.made ++ n ∷ []) (sym c.next_reading-now.ensures);
      };
      schedule = λ _. record {
        reads = λ _. c.next_reading-now.ensures ∙ ap (reading_at c.args.self.now.schedule.items) (sym count);
        tells = λ t below. search (rules, count);
      };
    }
