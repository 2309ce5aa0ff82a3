-- Which faults words may have.
use Rattle.std.proofs.Common.{ℕ, Bool, List, [], ◌∷◌, Option, Some, None, is_some, Result, Ok, Err}
use Rattle.std.proofs.lemmas.Bool.{cond_both}
use Rattle.option_words.specs.declared.fault.UsageFault.{UsageFault}
use Rattle.option_words.specs.declared.fault.UsageFault.TheVariants.{BadValue, Operands}
use Rattle.option_words.specs.declared.reading.Item.{Item}
use Rattle.program_promise.proofs.GrammarLemmas.{Gives}
use Rattle.ddrescue_words.specs.declared.options.Options.{Options}
use Rattle.ddrescue_words.specs.Command.{Command, Task}
use Rattle.ddrescue_words.specs.Asking.{MapOptions, cluster_word, command_with, conflict_in, empty_operand, files_task, is_too_large, maps_in, sample_task, task_from, task_in, task_with, unless_conflict, unless_empty, wants_mapfile}
use Rattle.ddrescue_words.specs.Options.{options_in}

command_gives : (words : List (List ℕ)) (m : MapOptions) (o : Options) (operands : List ℕ)
    → Gives (command_with words m o operands)
command_gives words m o (i ∷ out ∷ []) =
    cond_both (wants_mapfile o) (Err (Operands 2)) _ (Gives {C = Command}) (λ on. tt) (λ off. tt)
command_gives words m o (i ∷ out ∷ map ∷ []) = tt
command_gives words m o _ = tt

files_give : (o : Options) (r : Result Command UsageFault) → Gives r
    → Gives (files_task o r)
files_give o (Ok c) gives = tt
files_give o (Err fault) gives = gives

sample_gives : (kib : ℕ) (quiet : Bool) (operands : List ℕ) → Gives (sample_task kib quiet operands)
sample_gives kib quiet [] = tt
sample_gives kib quiet (n ∷ more) = tt

task_gives : (words : List (List ℕ)) (items : List Item) (o : Options) (sample : Option ℕ) (operands : List ℕ)
    → Gives (task_with words items o sample operands)
task_gives words items o None operands = files_give o _ (command_gives words (maps_in words items) o operands)
task_gives words items o (Some kib) operands = sample_gives kib o.quiet operands

apart_gives : (conflict : Option ℕ) (r : Result Task UsageFault) → Gives r
    → Gives (unless_conflict conflict r)
apart_gives (Some n) r gives = tt
apart_gives None r gives = gives

filled_gives : (e : Option ℕ) (r : Result Task UsageFault) → Gives r
    → Gives (unless_empty e r)
filled_gives None (Err f) gives = gives
filled_gives (Some n) (Err f) gives = gives
filled_gives None (Ok t) gives = tt
filled_gives (Some n) (Ok t) gives = tt

read_gives : (words : List (List ℕ)) (items : List Item) (r : Result Options ℕ) (operands : List ℕ)
    → Gives (task_from words items r operands)
read_gives words items (Err n) operands = tt
read_gives words items (Ok o) operands =
    cond_both (is_too_large o) (Err (BadValue (cluster_word items))) _ (Gives {C = Task}) (λ on. tt)
    (λ off. filled_gives (empty_operand words operands) _
    (apart_gives (conflict_in (is_some o.sample) items) _ (task_gives words items o o.sample operands)))

pub words_give : (words : List (List ℕ)) (items : List Item) (operands : List ℕ) → Gives (task_in words items operands)
words_give words items operands = read_gives words items (options_in words items) operands
