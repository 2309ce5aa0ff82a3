-- Which words are options, and which are operands.
use Rattle.std.specs.Prelude.{ℕ, List, [], ◌∷◌, nat_eq, if◌then◌else◌}
use Rattle.option_words.specs.declared.form.Form.{Form}
use Rattle.option_words.specs.declared.form.Form.TheVariants.{Plain, Stop, Name, Letters}

-- what comes after two hyphens
abbrev pub form_after : List ℕ → Form
form_after [] = Stop
form_after (c ∷ cs) = Name

-- What a word looks like: `--`, a long name after `--`, letters after `-`, or plain; so are an empty word and a lone
-- hyphen.
abbrev pub form_of : List ℕ → Form
form_of [] = Plain
form_of (c ∷ []) = Plain
form_of (c ∷ d ∷ rest) = if nat_eq c 45 then if nat_eq d 45 then form_after rest else Letters else Plain
