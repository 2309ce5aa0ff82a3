-- A command, the files that were found and a list have one verdict.
use Rattle.std.proofs.Common.{◌≡◌, ℕ, Bool, true, false, List, [], ◌∷◌, Option, Some, None, Ok, Err, sym, ap, ◌∙◌, inl, inr, subst, arith}
use Rattle.std.proofs.lemmas.Bool.{both_ways}
use Rattle.block_list.specs.declared.status.Status.{Status}
use Rattle.mapfile_text.specs.declared.read.Mode.{Mode}
use Rattle.mapfile_text.specs.declared.read.Mode.TheVariants.{Tight}
use Rattle.crash_site.specs.Files.{File}
use Rattle.mapfile_resume.specs.Named.{map_mode}
use Rattle.mapfile_resume.proofs.AnswerLemmas.{refused_for_one}
use Rattle.program_promise.specs.Work.{Deeds, Take, Look, Make, Works}
use Rattle.program_promise.specs.Verdicts.{IsOnce, RefuseOnce, AreVerdicts}
use Rattle.program_promise.proofs.VerdictLemmas.{one_verdict}
use Rattle.ddrescuelog_words.specs.declared.mode.LogMode.{LogMode}
use Rattle.ddrescuelog_words.specs.declared.mode.LogMode.TheVariants.{Create, Test, Compare}
use Rattle.map_algebra.specs.Numbers.{numbers_in}
use Rattle.ddrescuelog_words.specs.declared.options.LogOptions.{LogOptions}
use Rattle.ddrescuelog_words.specs.Modes.{creates, mapfile_mode}
use Rattle.ddrescuelog_words.specs.Command.{Command}
use Rattle.ddrescuelog_cli.specs.declared.ending.Which.{Which}
use Rattle.ddrescuelog_cli.specs.declared.ending.Which.TheVariants.{DomainMap, RunMap, OtherMap}
use Rattle.ddrescuelog_cli.specs.declared.ending.LogEnding.{LogEnding}
use Rattle.ddrescuelog_cli.specs.declared.ending.LogEnding.TheVariants.{Done, MapRefused, BadNumber}
use Rattle.ddrescuelog_cli.specs.Modes.{Finds, log_faults, OnlyAnswers, EndsPrinted, EndsSaved, EndsCreated, EndsAs, IsNotDone, removal_calls}
use Rattle.ddrescuelog_cli.specs.Maps.{Found, Maps, shape_of}
use Rattle.ddrescuelog_cli.specs.Refusals.{IfNamed, MapIsRefused, ListRefused}
use Rattle.ddrescuelog_cli.specs.Results.{IsCreated}
use Rattle.ddrescuelog_cli.specs.Work.{PlacesRefused, named_rows, read_rows, WorksOver, UnlessThere, WorksAs}
use Rattle.ddrescuelog_cli.specs.Laws.{IsVerdict, HasOneVerdict}

-- some work has one verdict
abbrev pub Once : (LogEnding → Deeds → Type 0) → Type 0
Once run = (e e' : LogEnding) (d d' : Deeds) → run e d → run e' d' → IsVerdict e → IsVerdict e' → e ≡ e'

-- no fault is a verdict
pub verdicts : AreVerdicts log_faults IsVerdict
verdicts = record { memory = λ v. v; input = λ v. v; call = λ call v. v }

-- ---- refusals

one_map : (which : Which) (mode : Mode) (file : Option File) → IsOnce (MapIsRefused which mode file)
one_map which mode file e e' (inl a) (inl b) = a.1 ∙ sym b.1
one_map which mode file e e' (inl a) (inr b) = let none : None ≡ Some b.1.there = sym a.0 ∙ b.1.is in absurd (cc)
one_map which mode file e e' (inr a) (inl b) = let none : None ≡ Some a.1.there = sym b.0 ∙ a.1.is in absurd (cc)
one_map which mode file e e' (inr a) (inr b) =
    a.2 ∙ ap (MapRefused which) (refused_for_one file mode a.0 b.0 a.1 b.1) ∙ sym b.2

one_if : (name : Option (List ℕ)) (refuses : LogEnding → Type 0) → IsOnce refuses → IsOnce (IfNamed name refuses)
one_if name refuses once e e' a b = once e e' a.1 b.1

one_named : (which : Which) (mode : Mode) (name : Option (List ℕ)) (file : Option File)
    → IsOnce (IfNamed name (MapIsRefused which mode file))
one_named which mode name file = one_if name (MapIsRefused which mode file) (one_map which mode file)

one_places : (c : Command) (m : Maps) → IsOnce (PlacesRefused c m)
one_places c m e e' a b = a.is ∙ sym b.is

one_not_done : (c : Command) (m : Maps) → IsOnce (IsNotDone c m)
one_not_done c m e e' a b = a.1 ∙ sym b.1

pub named_once : (c : Command) (found : Found) → RefuseOnce (named_rows c found)
named_once c found = (
  one_named OtherMap Tight c.other found.other,
  (one_named DomainMap (map_mode c.options.loose) c.domain_map found.domain, tt),
)

pub read_once : (c : Command) (found : Found) → RefuseOnce (read_rows c found)
read_once c found = (one_named RunMap (mapfile_mode c.mode) (Some c.mapfile) found.mapfile, named_once c found)

-- ---- what a mode does

printed_once : Once EndsPrinted
printed_once e e' d d' (inl a) b v v' = absurd (subst IsVerdict a.0 v)
printed_once e e' d d' (inr a) (inl b) v v' = absurd (subst IsVerdict b.0 v')
printed_once e e' d d' (inr a) (inr b) v v' = a.0 ∙ sym b.0

ends_once : Once (OnlyAnswers Done)
ends_once e e' d d' a b v v' = a.0 ∙ sym b.0

found_once : (mode : LogMode) (c : Command) (m : Maps) → IsOnce (Finds mode c m)
found_once (Test removes) c m e e' (inl a) (inl b) = a.0 ∙ sym b.0
found_once (Test removes) c m e e' (inl a) (inr b) =
    absurd (both_ways _ b.1.unfinished (a.1.each b.1.position b.1.inside))
found_once (Test removes) c m e e' (inr a) (inl b) =
    absurd (both_ways _ a.1.unfinished (b.1.each a.1.position a.1.inside))
found_once (Test removes) c m e e' (inr a) (inr b) = a.0 ∙ sym b.0
found_once (Compare false) c m e e' (inl a) (inl b) = a.0 ∙ sym b.0
found_once (Compare false) c m e e' (inl a) (inr b) = absurd (b.1.other (a.1.each b.1.position b.1.inside))
found_once (Compare false) c m e e' (inr a) (inl b) = absurd (a.1.other (b.1.each a.1.position a.1.inside))
found_once (Compare false) c m e e' (inr a) (inr b) = a.0 ∙ sym b.0
found_once (Compare true) c m e e' (inl a) (inl b) = a.0 ∙ sym b.0
found_once (Compare true) c m e e' (inl a) (inr b) = absurd (b.1.other (a.1.each b.1.position b.1.inside))
found_once (Compare true) c m e e' (inr a) (inl b) = absurd (a.1.other (b.1.each a.1.position a.1.inside))
found_once (Compare true) c m e e' (inr a) (inr b) = a.0 ∙ sym b.0
found_once _ c m e e' a b = a ∙ sym b

pub one_list : (o : LogOptions) (list : List ℕ) → IsOnce (ListRefused o list)
one_list o list e e' (inl a) (inl b) = a.1 ∙ sym b.1
one_list o list e e' (inl a) (inr b) = let no : ⊥ = omega (arith, a.0, b.1) in absurd no
one_list o list e e' (inr a) (inl b) = let no : ⊥ = omega (arith, b.0, a.1) in absurd no
one_list o list e e' (inr a) (inr b) =
    let both : Err a.0 ≡ Err b.0 = sym a.2 ∙ b.2 in
    let same : a.0 ≡ b.0 = cc in
    a.3 ∙ ap (λ n. BadNumber n) same ∙ sym b.3

-- a save that failed has no verdict
pub saved_done : (c : Command) (text : List ℕ) (e : LogEnding) (d : Deeds) → EndsSaved c text e d → IsVerdict e → e ≡ Done
saved_done c text e d (inl a) v = absurd (subst IsVerdict a.1 v)
saved_done c text e d (inr a) v = a.2.0

-- what is done once the list is read
abbrev pub Saves : (listed rest : Status) → Command → (line list : List ℕ) → Maps → LogEnding → Deeds → Type 0
Saves listed rest c line list m e d =
    (numbers text : List ℕ) × (numbers_in (shape_of c.options) list ≡ Ok numbers)
    × IsCreated c listed rest line m numbers text × EndsSaved c text e d

saves_once : (listed rest : Status) (c : Command) (line list : List ℕ) (m : Maps)
    → Once (Saves listed rest c line list m)
saves_once listed rest c line list m e e' d d' a b v v' =
    saved_done c a.1 e d a.4 v ∙ sym (saved_done c b.1 e' d' b.4 v')

created_once : (listed rest : Status) (c : Command) (line list : List ℕ) (m : Maps)
    → Once (EndsCreated listed rest c line list m)
created_once listed rest c line list m e e' d d' (inl a) b v v' = absurd (subst IsVerdict a.0 v)
created_once listed rest c line list m e e' d d' (inr a) (inl b) v v' = absurd (subst IsVerdict b.0 v')
created_once listed rest c line list m e e' d d' (inr a) (inr b) v v' =
    one_verdict LogEnding log_faults IsVerdict verdicts (Look (ListRefused c.options list) ∷ [])
    (Saves listed rest c line list m) (one_list c.options list, tt) (saves_once listed rest c line list m)
    e e' d d' a b v v'

ends_as_once : (mode : LogMode) (c : Command) (line list : List ℕ) (m : Maps) → Once (EndsAs mode c line list m)
ends_as_once (Create listed rest) c line list m = created_once listed rest c line list m
ends_as_once (Test true) c line list m =
    one_verdict LogEnding log_faults IsVerdict verdicts
    (Look (IsNotDone c m) ∷ Make (removal_calls c.mapfile) ∷ []) (OnlyAnswers Done) (one_not_done c m, tt) ends_once
ends_as_once (Test false) c line list m = λ e e' d d' a b v v'. found_once (Test false) c m e e' a.0 b.0
ends_as_once (Compare finished) c line list m =
    λ e e' d d' a b v v'. found_once (Compare finished) c m e e' a.0 b.0
ends_as_once _ c line list m = printed_once

-- ---- all of it

pub over_once : (c : Command) (line list : List ℕ) (m : Maps) → Once (WorksOver c line list m)
over_once c line list m =
    one_verdict LogEnding log_faults IsVerdict verdicts (Take ∷ Look (PlacesRefused c m) ∷ [])
    (EndsAs c.mode c line list m) (one_places c m, tt) (ends_as_once c.mode c line list m)

pub there_once : (forced : Bool) (name : List ℕ) (file : Option File) (more : LogEnding → Deeds → Type 0) → Once more
    → Once (UnlessThere forced name file more)
there_once true name file more once e e' d d' a b v v' = once e e' d d' a b v v'
there_once false name file more once e e' d d' (inl a) b v v' = absurd (subst IsVerdict a.0 v)
there_once false name file more once e e' d d' (inr a) (inl b) v v' = absurd (subst IsVerdict b.0 v')
there_once false name file more once e e' d d' (inr (x, r, s, i, inl p)) (inr (x', r', s', i', inl p')) v v' =
    p.0.1 ∙ sym p'.0.1
there_once false name file more once e e' d d' (inr (x, r, s, i, inl p)) (inr (x', r', s', i', inr q)) v v' =
    absurd (q.0 e p.0)
there_once false name file more once e e' d d' (inr (x, r, s, i, inr q)) (inr (x', r', s', i', inl p)) v v' =
    absurd (q.0 e' p.0)
there_once false name file more once e e' d d' (inr (x, r, s, i, inr q)) (inr (x', r', s', i', inr q')) v v' =
    once e e' _ _ q.1 q'.1 v v'

works_once : (new : Bool) (c : Command) (line list : List ℕ) (found : Found) (m : Maps)
    → Once (WorksAs new c line list found m)
works_once false c line list found m =
    one_verdict LogEnding log_faults IsVerdict verdicts (Take ∷ read_rows c found) (WorksOver c line list m)
    (read_once c found) (over_once c line list m)
works_once true c line list found m =
    one_verdict LogEnding log_faults IsVerdict verdicts (Take ∷ [])
    (UnlessThere c.options.forced c.mapfile found.mapfile
    (Works log_faults (named_rows c found) (WorksOver c line list m)))
    tt
    (there_once c.options.forced c.mapfile found.mapfile
    (Works log_faults (named_rows c found) (WorksOver c line list m))
    (one_verdict LogEnding log_faults IsVerdict verdicts (named_rows c found) (WorksOver c line list m)
    (named_once c found) (over_once c line list m)))

pub has_one_verdict : HasOneVerdict
has_one_verdict c line list found m e e' d d' a b v v' =
    works_once (creates c.mode) c line list found m e e' d d' a b v v'
