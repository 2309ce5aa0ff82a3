-- What options ask of a run, and the line before it. For contracts and proofs: no promise uses it.
use Rattle.std.specs.Prelude.{ℕ, List, [], ◌∷◌, Option, Some, None, unwrap_or}
use Rattle.run_options.specs.declared.settings.Settings.{Settings}
use Rattle.ddrescue_words.specs.declared.options.Options.{Options}
use Rattle.ddrescue_words.specs.Options.{cluster_of}
use Rattle.task_files.specs.Asked.{skips_asked}

-- what options ask of a run
abbrev pub settings_by : Options → Settings
settings_by o = record {
  sector = o.sector;
  cluster = cluster_of o;
  input_position = o.input_position;
  output_position = unwrap_or o.output_position o.input_position;
  skips = skips_asked o;
  passes = o.passes;
  limits = o.limits;
}

-- the line, if there is one
abbrev pub lines_in : Option (List ℕ) → List (List ℕ)
lines_in None = []
lines_in (Some line) = line ∷ []
