-- The names of the files are apart.
use Rattle.std.proofs.Common.{◌≡◌, ◌≢◌, ℕ, true, List, Option, Some, None, is_some, refl, sym, ap, ◌∙◌, subst}
use Rattle.std.specs.Prelude.{option_map}
use Rattle.std.specs.Str.{bytes_eq}
use Rattle.std.proofs.lemmas.Bool.{cond_both}
use Rattle.mapfile_save.specs.MapNames.{MapNames, names_of, HasOwnDraft, names_in}
use Rattle.rescue_rules.specs.Laws.{AreThreeNames}
use Rattle.ddrescue_words.specs.Command.{Command, Task}
use Rattle.ddrescue_words.specs.Asking.{IsAsked}
use Rattle.mapfile_save.proofs.NameLemmas.{apart_draft, ne_of}
use Rattle.program_promise.specs.declared.operand.Operand.{Operand}
use Rattle.program_promise.specs.declared.operand.Operand.TheVariants.{Infile, Outfile, Mapfile, Draft}
use Rattle.task_files.specs.declared.ending.Ending.{Ending}
use Rattle.task_files.specs.declared.ending.Ending.TheVariants.{SameName}
use Rattle.task_files.specs.Names.{first_same_with_optional_map, AreNamedApart}
use Rattle.task_files.specs.Asked.{Maps, names_by, setting_of}
use Rattle.task_files.specs.Refusals.{NamesRefused}
use Rattle.task_files.specs.Answers.{files_of_task, NameOneFileTwice}

-- names apart
pub apart_of : (i o : List ℕ) (n : Option MapNames) → first_same_with_optional_map i o n ≡ None → AreNamedApart o n
apart_of i o None is = tt
apart_of i o (Some n) is =
    let P : Option (Operand × Operand) → Type 0 = λ r. r ≡ None → AreNamedApart o (Some n) in
    cond_both (bytes_eq i o) (Some (Infile, Outfile)) _ P (λ on none. absurd (cc))
    (λ off. cond_both (bytes_eq i n.map) (Some (Infile, Mapfile)) _ P (λ on none. absurd (cc))
    (λ off. cond_both (bytes_eq i n.draft) (Some (Infile, Draft)) _ P (λ on none. absurd (cc))
    (λ off. cond_both (bytes_eq o n.map) (Some (Outfile, Mapfile)) _ P (λ on none. absurd (cc))
    (λ map. cond_both (bytes_eq o n.draft) (Some (Outfile, Draft)) None P (λ on none. absurd (cc))
    (λ draft none. (map, draft)))))) is

-- three names
record AreThree (outfile : List ℕ) (names : MapNames) : Type 0 where
  map : outfile ≢ names.map
  draft : outfile ≢ names.draft
  apart : names.map ≢ names.draft
  own : HasOwnDraft names

three_by : (outfile : List ℕ) (mapfile : Option (List ℕ)) → is_some (option_map names_of mapfile) ≡ true
    → AreNamedApart outfile (option_map names_of mapfile) → AreThree outfile (names_in (option_map names_of mapfile))
three_by outfile None on apart = absurd (cc)
three_by outfile (Some name) on apart = record {
  map = ne_of outfile name apart.0;
  draft = ne_of outfile (names_of name).draft apart.1;
  apart = apart_draft name;
  own = refl;
}

pub three_names : (c : Command) (line : List ℕ) (end : ℕ) (maps : Maps) → (setting_of c line end maps).has_mapfile ≡ true
    → first_same_with_optional_map c.infile c.outfile (names_by c) ≡ None → AreThreeNames (setting_of c line end maps)
three_names c line end maps on different =
    let three : AreThree c.outfile (names_in (names_by c)) =
    three_by c.outfile c.mapfile on (apart_of c.infile c.outfile (names_by c) different) in
    record { map = three.map; draft = three.draft; apart = three.apart; own = three.own }

-- no two files have one name
pub names_pass : (c : Command) → first_same_with_optional_map c.infile c.outfile (names_by c) ≡ None → (e : Ending)
    → NamesRefused c e → ⊥
names_pass c different e (first, second, same, is) =
    let pair : Operand × Operand = (first, second) in
    let never : None ≡ Some pair = sym different ∙ same in absurd (cc)

pub named_apart : (words : List (List ℕ)) (task : Task) (c : Command) → IsAsked words task → files_of_task task ≡ Some c
    → first_same_with_optional_map c.infile c.outfile (names_by c) ≡ None → (first second : Operand)
    → NameOneFileTwice words first second → ⊥
named_apart words task c a over different first second twice =
    let same : files_of_task twice.asks.task ≡ files_of_task task = ap files_of_task (a.only.alone twice.asks.task twice.asks.asks) in
    let one : Some twice.command ≡ Some c = sym twice.asks.over ∙ same ∙ over in
    let P : Command → Type 0 = λ x. first_same_with_optional_map x.infile x.outfile (names_by x) ≡ Some (first, second) in
    let is : twice.command ≡ c = cc in
    names_pass c different (SameName first second) (first, second, subst P is twice.same, refl)
