-- What is said first: how much is asked for, from where, to where.
use Rattle.std.proofs.Common.{◌≡◌, ℕ, ◌≤◌, Bool, true, if◌then◌else◌, List, [], ◌∷◌, ◌++◌, map, refl, sym, ap, ◌∙◌}
use Rattle.std.specs.Prelude.{codes}
use Rattle.std.specs.Fmt.{decimal}
use Rattle.std.proofs.Math.Path.{fun_ext}
use Rattle.block_list.specs.Areas.{count_below}
use Rattle.block_list.specs.declared.block.Range.{Range}
use Rattle.mapfile_text.specs.Printed.{shown_byte}
use Rattle.rescue_domain.specs.Domain.{IsSize}
use Rattle.rescue_domain.specs.Parts.{covers}
use Rattle.rescue_rules.specs.Lines.{opening_lines}
use Rattle.ddrescue_words.specs.declared.options.Options.{Options}
use Rattle.ddrescue_words.specs.Command.{Command}
use Rattle.task_files.specs.Asked.{Maps, domain_asked, setting_of}
use Rattle.task_files.specs.Settings.{settings_by}
use Rattle.task_files.proofs.PlacedLemmas.{asked_suits}

-- the size of the domain that is asked for, below a map's end
size_asked : (o : Options) (end : ℕ) (maps : Maps) (domain : List Range) (size top : ℕ) → IsSize (covers domain) size
    → ((x : ℕ) → covers domain x ≡ domain_asked o end maps x) → end ≤ top
    → size ≡ count_below (domain_asked o end maps) top
size_asked o end maps domain size top is asked long =
    let positions : covers domain ≡ domain_asked o end maps = fun_ext asked in
    is.counts top (asked_suits (settings_by o) domain o end maps top refl asked long).to
    ∙ ap (λ (set : ℕ → Bool). count_below set top) positions

-- the line of a command that asks for so much
abbrev said_first : Command → (size : ℕ) → List ℕ
said_first c size =
    codes "domain of " ++ decimal size ++ codes " B from " ++ map shown_byte c.infile ++ codes " to "
    ++ map shown_byte c.outfile ++ 10 ∷ []

pub says_size : (c : Command) (line : List ℕ) (end : ℕ) (maps : Maps) (domain : List Range) (size top : ℕ) (text : List ℕ)
    → c.options.verbose ≡ true → text ≡ said_first c size → IsSize (covers domain) size
    → ((x : ℕ) → covers domain x ≡ domain_asked c.options end maps x) → end ≤ top
    → text ∷ [] ≡ opening_lines (setting_of c line end maps) top
says_size c line end maps domain size top text on is size_is asked long =
    let n : ℕ = count_below (domain_asked c.options end maps) top in
    ap (λ (t : List ℕ). t ∷ []) (is ∙ ap (said_first c) (size_asked c.options end maps domain size top size_is asked long))
    ∙ ap (λ (b : Bool). if b then said_first c n ∷ [] else []) (sym on)
