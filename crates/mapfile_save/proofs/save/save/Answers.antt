-- The calls of a save say what a stop within it leaves.
use Rattle.mapfile_save.proofs.StopLemmas.{stops_in_save, saved_where_ok}
use Rattle.mapfile_save.proofs.save.save.Goals as goal

pub returns-clause-stops : goal.returns-clause-stops
returns-clause-stops g c = λ tells own. stops_in_save _ _ _ _ _ tells own c.make_calls.ensures

pub returns-clause-saved : goal.returns-clause-saved
returns-clause-saved g c = saved_where_ok _ _ _ _ _ c.make_calls.ensures
