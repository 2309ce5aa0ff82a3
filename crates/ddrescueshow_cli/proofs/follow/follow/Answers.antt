-- First the lines are put, and then the message.
use Rattle.ddrescueshow_cli.proofs.follow.follow.Goals as goal

pub returns-clause-puts : goal.returns-clause-puts
returns-clause-puts g c = record {
  between = g.P.Console.state c.answer-ending.new.console;
  goes = c.answer-ending.ensures.goes;
  says = c.say_ending.ensures;
}
