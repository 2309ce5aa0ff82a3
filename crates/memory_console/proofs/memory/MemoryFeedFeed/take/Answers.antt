use Rattle.std.proofs.Common.{rules, ◌∙◌, ap, take, min, length}
use Rattle.memory_console.proofs.FeedLemmas.{taken-left, none-left}
use Rattle.memory_console.proofs.memory.MemoryFeedFeed.take.Goals as goal

pub returns-clause-call : goal.returns-clause-call
returns-clause-call c =
    let front = c.copy_front-count.ensures.front ∙ ap (take c.copy_front-count.result) c.rest.ensures in
    let count = c.copy_front-count.ensures.count ∙ ap (λ l. min (length c.args.buf.now) (length l)) c.rest.ensures in
    record {
      keeps = search rules;
      taken = λ _. taken-left _ _ _ _ front;
      ends = λ _. none-left _ _ _ c.requires count;
      kept = search rules;
      rose = search rules;
      stays = search rules;
      schedule = λ _. record { schedule = search rules; fails = search rules; takes = count };
    }
