-- Small command lines, computed.
use Rattle.std.specs.Prelude.{◌≡◌, ℕ, List, [], ◌∷◌, Option, Some, None, Ok, Err, codes}
use Rattle.block_list.specs.declared.status.Status.TheVariants.{NonTried}
use Rattle.option_words.specs.declared.reading.Item.{Item}
use Rattle.option_words.specs.declared.fault.UsageFault.TheVariants.{BadValue, Modes, Operands}
use Rattle.map_algebra.specs.declared.combine.Op.TheVariants.{And}
use Rattle.ddrescuelog_words.specs.declared.mode.LogMode.{LogMode}
use Rattle.ddrescuelog_words.specs.declared.mode.LogMode.TheVariants.{Combine, Complete, Summarize}
use Rattle.ddrescuelog_words.specs.declared.options.LogOptions.{LogOptions}
use Rattle.ddrescuelog_words.specs.Options.{no_options}
use Rattle.ddrescuelog_words.specs.Command.{Command, command_in}

-- an option of a row, counted from 0, in a word, with no value
abbrev pub alone : (row word : ℕ) → Item
alone row word = record { row = row; word = word; value = None }

-- an option of a row, counted from 0, in a word, with a value that begins in a word at a byte
abbrev pub valued : (row word begins from : ℕ) → Item
valued row word begins from = record { row = row; word = word; value = Some (record { word = begins; from = from }) }

-- what is asked for with no map but the mapfile `m`
abbrev pub of_map : LogMode → (other : Option (List ℕ)) → LogOptions → Command
of_map mode other options = record {
  mapfile = codes "m";
  mode = mode;
  other = other;
  domain_map = None;
  options = record options { mode = Some mode };
}

-- `m` and `-tD` have no mode and two, and `-t` has no operand
abbrev pub ModesComeFirst : Type 0
ModesComeFirst = (command_in (codes "m" ∷ []) [] (1 ∷ []) ≡ Err (Modes 0))
    × (command_in (codes "-tD" ∷ []) (alone 17 1 ∷ alone 5 1 ∷ []) [] ≡ Err (Modes 2))
    × (command_in (codes "-t" ∷ []) (alone 17 1 ∷ []) [] ≡ Err (Operands 0))

-- `-C* -C m` and `-ya -yb m`: of one mode the last value counts
abbrev pub LastOfAModeCounts : Type 0
LastOfAModeCounts =
    (command_in (codes "-C*" ∷ codes "-C" ∷ codes "m" ∷ []) (valued 3 1 1 2 ∷ alone 3 2 ∷ []) (3 ∷ [])
    ≡ Ok (of_map (Complete NonTried) None (no_options 512)))
    × (command_in (codes "-ya" ∷ codes "-yb" ∷ codes "m" ∷ []) (valued 20 1 1 2 ∷ valued 20 2 2 2 ∷ []) (3 ∷ [])
    ≡ Ok (of_map (Combine And) (Some (codes "b")) (no_options 512)))

-- `-s3s -b2 -b4 -t m`: sizes go by the last block; and with `-b0` that is the first bad value
abbrev pub BlockComesFirst : Type 0
BlockComesFirst =
    (command_in (codes "-s3s" ∷ codes "-b2" ∷ codes "-b4" ∷ codes "-t" ∷ codes "m" ∷ [])
    (valued 16 1 1 2 ∷ valued 1 2 2 2 ∷ valued 1 3 3 2 ∷ alone 17 4 ∷ []) (5 ∷ [])
    ≡ Ok (of_map Summarize None (record (no_options 4) { size = Some 12 })))
    × (command_in (codes "-ix" ∷ codes "-b0" ∷ codes "-t" ∷ codes "m" ∷ [])
    (valued 7 1 1 2 ∷ valued 1 2 2 2 ∷ alone 17 3 ∷ []) (4 ∷ []) ≡ Err (BadValue 2))

-- `-c -i1 -s9223372036854775807 m` would end at 2^63; an empty operand in place of `m` is refused before
abbrev pub EndComesLast : Type 0
EndComesLast =
    (command_in (codes "-c" ∷ codes "-i1" ∷ codes "-s9223372036854775807" ∷ codes "m" ∷ [])
    (alone 2 1 ∷ valued 7 2 2 2 ∷ valued 16 3 3 2 ∷ []) (4 ∷ []) ≡ Err (BadValue 3))
    × (command_in (codes "-c" ∷ codes "-i1" ∷ codes "-s9223372036854775807" ∷ [] ∷ [])
    (alone 2 1 ∷ valued 7 2 2 2 ∷ valued 16 3 3 2 ∷ []) (4 ∷ []) ≡ Err (BadValue 4))
