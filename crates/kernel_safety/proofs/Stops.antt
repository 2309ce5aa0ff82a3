-- What a stop of the kernel leaves, a stop of the rescue leaves.
use Rattle.std.proofs.Common.{◌≡◌, ℕ, suc, ◌+◌, ◌≤◌, Bool, IsTrue, List, [], ◌∷◌, ◌++◌, length, Option, refl, sym, ◌∙◌, ap, subst, arith}
use Rattle.faulty_source.specs.SourceState.{SourceState}
use Rattle.crash_site.specs.Files.{File}
use Rattle.crash_site.specs.Calls.{Entry}
use Rattle.crash_site.specs.Left.{MayBeLeft}
use Rattle.crash_site.specs.Folder.{Folder}
use Rattle.crash_site.specs.SiteState.{SiteState}
use Rattle.crash_site.specs.SiteChanges.{Keeps}
use Rattle.kernel_files.specs.Volume.{Volume, after as after_steps}
use Rattle.kernel_files.specs.Answers.{Told}
use Rattle.site_record.specs.Record.{Noted}
use Rattle.kernel_laws.specs.Refines.{as_file}
use Rattle.kernel_laws.specs.Laws.{Deed, IsLeft, entries, first_folder}
use Rattle.kernel_laws.specs.Deeds.{calls_of, deeds_of}
use Rattle.kernel_laws.specs.Site.{AlongDeeds, AreLeft}
use Rattle.kernel_laws.proofs.Stops.{along_map}
use Rattle.folder_site.specs.Told.{tells_both, site_state}
use Rattle.rescue_console.specs.ClockState.{ClockState}
use Rattle.rescue_console.specs.ConsoleState.{ConsoleState}
use Rattle.rescue_rules.specs.Stops.{Before, LeftBy}
use Rattle.program_promise.specs.World.{told}
use Rattle.task_files.specs.declared.ending.Ending.{Ending}
use Rattle.ddrescue_cli.specs.Told.{Told as ToldOf, calls_before, handed}
use Rattle.rescue_safety.specs.Rescue.{Rescue}
use Rattle.rescue_safety.specs.AskedFor.{Untested}
use Rattle.rescue_safety.proofs.HoldsLemmas.{finished_is_held}
use Rattle.saved_laws.proofs.SavedLemmas.{nothing_saved_is_lost}
use Rattle.kernel_safety.specs.Stops.{HoldsAt, HoldsAtStops}

-- a property of each stop, of which another follows while no more than these calls were made
along_deeds_map : (P Q : ℕ → Volume → Type 0) (last : ℕ) → ((k : ℕ) (v : Volume) → k ≤ last → P k v → Q k v)
    → (deeds : List Deed) (k : ℕ) (v : Volume) → k + length deeds ≤ last → AlongDeeds P k v deeds
    → AlongDeeds Q k v deeds
along_deeds_map P Q last f [] k v most h =
    let within : k ≤ last = omega (arith, most) in
    f k v within h
along_deeds_map P Q last f (a ∷ deeds) k v most h =
    let sum : k + suc (length deeds) ≤ last = most in
    let within : k ≤ last = omega (arith, sum) in
    let rest : suc k + length deeds ≤ last = omega (arith, sum) in (
      along_map (P k) (Q k) (λ w p. f k w within p) v a.steps (h.0),
      along_deeds_map P Q last f deeds (suc k) (after_steps v a.steps) rest (h.1),
    )

entries_length : (deeds : List Deed) → length deeds ≡ length (entries deeds)
entries_length [] = refl
entries_length (a ∷ deeds) = ap suc (entries_length deeds)

-- the first calls of a site are all that it made
left_by : (b : Before) (calls : List Entry) (k : ℕ) (files : List ℕ → Option File) → b.earlier ≡ []
    → MayBeLeft b.start calls k files → LeftBy b calls k files
left_by b calls k files none left =
    let same : k ≡ 0 + k = omega arith in
    subst (λ (l : List Entry). MayBeLeft b.start (l ++ calls) (length l + k) files) (sym none)
    (subst (λ (n : ℕ). MayBeLeft b.start calls n files) same left)

module _ (r : Rescue) where
  is_a_stop : (start : Folder) (calls : List Entry) (k : ℕ) (w : Volume) → start ≡ r.did.call.told.before.site.start
      → r.did.call.told.before.site.calls ≡ [] → calls ≡ r.did.call.calls → k ≤ length calls → IsLeft start calls k w
      → HoldsAt r k w
  is_a_stop start calls k w began none made most leaves found finds =
      let files : List ℕ → Option File = λ n. as_file (found n) in
      let here : MayBeLeft r.did.call.told.before.site.start r.did.call.calls k files =
      subst (λ (f : Folder). MayBeLeft f r.did.call.calls k files) began
      (subst (λ (es : List Entry). MayBeLeft start es k files) made (leaves found finds)) in
      let left : LeftBy (calls_before r.did.call.told) r.did.call.calls k files =
      left_by (calls_before r.did.call.told) r.did.call.calls k files none here in
      let within : k ≤ length r.did.call.calls = subst (λ (es : List Entry). k ≤ length es) made most in
      record {
        within = within;
        left = left;
        holds = λ untested. finished_is_held r k files untested within left;
        saved = λ untested before saving after name x byte ends given.
            nothing_saved_is_lost r r.did.reads k files before saving after name x byte (Untested untested refl) within
            left ends given;
      }

  -- what was told of a site's first calls, which were the rescue's
  pub holds_at_stops : (words : List (List ℕ)) (e : Ending) (source source' : SourceState) (old : SiteState)
      (clock clock' : ClockState) (console console' : ConsoleState) (t : Told) (n : Noted)
      (is_open is_drafting : Bool) (faults : ℕ)
      → r.did.call.told ≡ told words e (handed source old clock console)
      (handed source' (site_state t n is_open is_drafting faults) clock' console')
      → (IsTrue old.tells → old.calls ≡ [])
      → (IsTrue (tells_both t n) → AreLeft t.start n.notes t.calls) → HoldsAtStops r t n
  holds_at_stops words e source source' old clock clock' console console' t n is_open is_drafting faults is first left =
      let keeps : Keeps r.did.call.told.before.site r.did.call.told.after.site = r.did.call.promised.does.keeps.site in
      let began : r.did.call.told.before.site ≡ old = ap (λ (w : ToldOf). w.before.site) is in
      let now : r.did.call.told.after.site ≡ site_state t n is_open is_drafting faults =
      ap (λ (w : ToldOf). w.after.site) is in
      let none : r.did.call.told.before.site.calls ≡ [] =
      ap (λ (s : SiteState). s.calls) began
      ∙ first (sym (ap (λ (s : SiteState). s.tells) began) ∙ r.did.call.site_tells) in
      let tells : IsTrue (tells_both t n) =
      sym (ap (λ (s : SiteState). s.tells) now) ∙ keeps.tells ∙ r.did.call.site_tells in
      let start : first_folder t.start ≡ r.did.call.told.before.site.start =
      sym (ap (λ (s : SiteState). s.start) now) ∙ keeps.start r.did.call.site_tells in
      let calls : calls_of n.notes t.calls ≡ r.did.call.calls =
      sym (ap (λ (s : SiteState). s.calls) now) ∙ r.did.call.made
      ∙ ap (λ (l : List Entry). l ++ r.did.call.calls) none in
      let deeds : List Deed = deeds_of n.notes t.calls in
      let counts : length deeds ≡ length (calls_of n.notes t.calls) = entries_length deeds in
      let all : 0 + length deeds ≤ length (calls_of n.notes t.calls) = omega (arith, counts) in
      record {
        steps = (left tells).0;
        calls = calls;
        stops = along_deeds_map (IsLeft (first_folder t.start) (calls_of n.notes t.calls)) (HoldsAt r)
            (length (calls_of n.notes t.calls))
            (λ k w most leaves.
            is_a_stop (first_folder t.start) (calls_of n.notes t.calls) k w start none calls most leaves)
            deeds 0 t.start all (left tells).1;
      }
