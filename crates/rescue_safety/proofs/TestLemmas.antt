-- A rescue that read anything had its test map, if one was named.
use Rattle.std.proofs.Common.{◌≡◌, ◌⊎◌, ℕ, ◌<◌, ◌≤◌, List, [], ◌++◌, length, Option, Some, None, is_some, refl, sym, ap, ◌∙◌, inl, inr, ⊎_elim}
use Rattle.std.proofs.lemmas.Bool.{cases_lt}
use Rattle.mapfile_text.specs.declared.read.Mode.{Mode}
use Rattle.mapfile_text.specs.declared.read.MapError.TheVariants.{TooLong}
use Rattle.mapfile_text.specs.MapText.{text_limit}
use Rattle.mapfile_text.proofs.MapOrFault.{is_map_or_has_fault}
use Rattle.crash_site.specs.Files.{File}
use Rattle.mapfile_resume.specs.Named.{map_mode}
use Rattle.mapfile_resume.proofs.NamedLemmas.{HasMap}
use Rattle.program_promise.specs.Work.{Deeds, WorkStep, Works, with_calls}
use Rattle.ddrescue_words.specs.Command.{Command}
use Rattle.task_files.specs.declared.ending.Ending.{Ending}
use Rattle.task_files.specs.declared.ending.Ending.TheVariants.{NoMap, MapRefused}
use Rattle.task_files.specs.declared.ending.Which.{Which}
use Rattle.task_files.specs.declared.ending.Which.TheVariants.{DomainMap, TestMap}
use Rattle.task_files.specs.Refusals.{NamedMapRefused}
use Rattle.task_files.specs.Maps.{Found}
use Rattle.task_files.specs.Work.{rescue_faults, rescue_rows, map_rows, opened_rows, IfNamed}

-- a file that isn't refused is a map
accepted_short : (which : Which) (mode : Mode) (f : File) → length f.bytes ≤ text_limit
    → ((e : Ending) → NamedMapRefused which mode (Some f) e → ⊥) → HasMap (Some f) mode
accepted_short which mode f short accepted =
    elim (is_map_or_has_fault f.bytes mode) [
      | inl m ↦ (
        m.3,
        record { there = f; is = refl; within = short; shown = m.0; first = m.1; listed = m.2; reads = m.4 },
      )
      | inr fault ↦ absurd (accepted (MapRefused which fault.0)
          (inr (fault.0, record { there = f; is = refl; why = inr (short, fault.1) }, refl)))
    ]

accepted_map : (which : Which) (mode : Mode) (file : Option File) → ((e : Ending) → NamedMapRefused which mode file e → ⊥)
    → HasMap file mode
accepted_map which mode None accepted = absurd (accepted (NoMap which) (inl (refl, refl)))
accepted_map which mode (Some f) accepted =
    ⊎_elim
    (λ (long : text_limit < length f.bytes).
    absurd (accepted (MapRefused which TooLong)
    (inr (TooLong, record { there = f; is = refl; why = inl (refl, long) }, refl))))
    (λ (short : length f.bytes ≤ text_limit). accepted_short which mode f short accepted)
    (cases_lt text_limit (length f.bytes))

-- nothing was read, or this
abbrev Unless : Deeds → Type 0 → Type 0
Unless d P = (d.gain.reads ≡ []) ⊎ P

-- after the rows of a map
walk : (which : Which) (mode : Mode) (name : Option (List ℕ)) (file : Option File) (more : List (WorkStep Ending))
    (run : Ending → Deeds → Type 0) (e : Ending) (d : Deeds) (P : Type 0)
    → (((v : Ending) → IfNamed name (NamedMapRefused which mode file) v → ⊥) → (h : Deeds) → h.gain.reads ≡ d.gain.reads
    → Works rescue_faults more run e h → Unless d P)
    → Works rescue_faults (map_rows which mode name file ++ more) run e d → Unless d P
walk which mode None file more run e d P next (inl (is, none)) = inl none.gain.reads
walk which mode None file more run e d P next (inr (absent, inl (refused, none))) = inl none.gain.reads
walk which mode None file more run e d P next (inr (absent, inr (passes, w))) = next passes d refl w
walk which mode (Some n) file more run e d P next (inl (load, is, begins, broke, only)) = inl only.reads
walk which mode (Some n) file more run e d P next (inr (inl (load, is, begins, all, only))) = inl only.reads
walk which mode (Some n) file more run e d P next (inr (inr (load, rest, loaded, grew, inl (refused, none)))) =
    inl none.gain.reads
walk which mode (Some n) file more run e d P next (inr (inr (load, rest, loaded, grew, inr (accepted, w)))) =
    next accepted (with_calls d rest) refl w

pub tested : (c : Command) (found : Found) (end : ℕ) (run : Ending → Deeds → Type 0) (e : Ending) (d : Deeds) (name : List ℕ)
    → c.test_map ≡ Some name → Works rescue_faults (rescue_rows c found end) run e d
    → Unless d (HasMap found.test (map_mode c.options.loose))
tested c found end run e d name named works =
    let mode : Mode = map_mode c.options.loose in
    let P : Type 0 = HasMap found.test mode in
    let last : List (WorkStep Ending) = opened_rows c found end in
    ⊎_elim (λ idle. inl idle.1.gain.reads)
    (λ taken. ⊎_elim (λ refused. inl refused.1.gain.reads)
    (λ passed. walk DomainMap mode c.domain_map found.domain (map_rows TestMap mode c.test_map found.test ++ last) run e d P
    (λ passes h same w. ⊎_elim
    (λ (none : h.gain.reads ≡ []). inl (sym same ∙ none)) (λ (m : P). inr m)
    (walk TestMap mode c.test_map found.test last run e h P
    (λ accepted k same' w'. inr (accepted_map TestMap mode found.test
    (λ v refused. accepted v (ap is_some named, refused)))) w)) passed.1) taken) works
