-- An answer of a mode is what it finds.
use Rattle.std.proofs.Common.{◌≡◌, ℕ, Bool, true, false, List, [], ◌∷◌, Option, Some, None, refl, sym, inl, inr, subst}
use Rattle.std.specs.Prelude.{⊤}
use Rattle.block_list.specs.declared.status.Status.{Status}
use Rattle.mapfile_text.specs.declared.read.Mode.{Mode}
use Rattle.crash_site.specs.declared.site.SiteCall.{SiteCall}
use Rattle.crash_site.specs.declared.site.SiteCall.TheVariants.{MapRead}
use Rattle.crash_site.specs.Files.{File}
use Rattle.crash_site.specs.Calls.{Entry}
use Rattle.crash_site.specs.CallsMade.{BrokeAt}
use Rattle.program_promise.specs.Work.{Deeds, WorkStep, Take, Look, Open, Make, Read, Works}
use Rattle.program_promise.specs.Kinds.{Kind, Asked}
use Rattle.ddrescuelog_words.specs.declared.mode.LogMode.{LogMode}
use Rattle.ddrescuelog_words.specs.declared.mode.LogMode.TheVariants.{Create, Test, Compare}
use Rattle.ddrescuelog_words.specs.Modes.{creates}
use Rattle.ddrescuelog_words.specs.Command.{Command}
use Rattle.ddrescuelog_cli.specs.declared.ending.Which.{Which}
use Rattle.ddrescuelog_cli.specs.declared.ending.LogEnding.{LogEnding}
use Rattle.ddrescuelog_cli.specs.declared.ending.LogEnding.TheVariants.{Done, NotDone, SiteFault, NoMemory}
use Rattle.ddrescuelog_cli.specs.Modes.{Finds, log_faults, OnlyAnswers, EndsPrinted, EndsCreated, EndsAs, IsNotDone}
use Rattle.ddrescuelog_cli.specs.Maps.{Found, Maps, domain_of}
use Rattle.rescue_domain.specs.Finished.{is_finished_at}
use Rattle.map_algebra.specs.Compare.{IsDoneIn}
use Rattle.mapfile_save.specs.MapNames.{names_of}
use Rattle.mapfile_save.specs.Saving.{save_calls}
use Rattle.ddrescuelog_cli.specs.Refusals.{IfNamed, MapIsRefused, ListRefused}
use Rattle.ddrescuelog_cli.specs.Work.{PlacesRefused, named_rows, read_rows, WorksOver, UnlessThere, WorksAs}
use Rattle.ddrescuelog_cli.specs.Answers.{row_of}
use Rattle.ddrescuelog_cli.specs.Laws.{IfAsked, IsModeAnswer, AnswersAreFound}
use Rattle.ddrescuelog_cli.proofs.VerdictLemmas.{Saves}

-- each answer of some rows has a property
abbrev pub RowsGive : (LogEnding → Type 0) → List (WorkStep LogEnding) → Type 0
RowsGive P [] = ⊤
RowsGive P (Take ∷ more) = P NoMemory × RowsGive P more
RowsGive P (Look refuses ∷ more) = ((e : LogEnding) → refuses e → P e) × RowsGive P more
RowsGive P (Open name ∷ more) = P NoMemory × RowsGive P more
RowsGive P (Make calls ∷ more) =
    ((call : SiteCall) (made : List Entry) → BrokeAt call calls [] made → P (SiteFault call)) × RowsGive P more
RowsGive P (Read name file ∷ more) = P NoMemory × (P (SiteFault MapRead)) × RowsGive P more

-- so each answer of a work has it whose run's answers have it
pub answers_have : (P : LogEnding → Type 0) (rows : List (WorkStep LogEnding)) (run : LogEnding → Deeds → Type 0)
    → RowsGive P rows → ((e : LogEnding) (d : Deeds) → run e d → P e) → (e : LogEnding) (d : Deeds)
    → Works log_faults rows run e d → P e
answers_have P [] run give last e d w = last e d w
answers_have P (Take ∷ rows) run give last e d (inl w) = subst P (sym w.0) give.0
answers_have P (Take ∷ rows) run give last e d (inr w) = answers_have P rows run give.1 last e d w
answers_have P (Look refuses ∷ rows) run give last e d (inl w) = give.0 e w.0
answers_have P (Look refuses ∷ rows) run give last e d (inr w) = answers_have P rows run give.1 last e d w.1
answers_have P (Open name ∷ rows) run give last e d (inl w) = subst P (sym w.0) give.0
answers_have P (Open name ∷ rows) run give last e d (inr w) = answers_have P rows run give.1 last e _ w.2
answers_have P (Make calls ∷ rows) run give last e d (inl w) = subst P (sym w.1) (give.0 w.0 d.gain.calls w.2)
answers_have P (Make calls ∷ rows) run give last e d (inr w) = answers_have P rows run give.1 last e _ w.2
answers_have P (Read None file ∷ rows) run give last e d (inl w) = subst P (sym w.0) give.0
answers_have P (Read None file ∷ rows) run give last e d (inr w) = answers_have P rows run give.2 last e d w.1
answers_have P (Read (Some name) file ∷ rows) run give last e d (inl w) = subst P (sym w.1) give.1
answers_have P (Read (Some name) file ∷ rows) run give last e d (inr (inl w)) = subst P (sym w.1) give.0
answers_have P (Read (Some name) file ∷ rows) run give last e d (inr (inr w)) =
    answers_have P rows run give.2 last e _ w.4

-- ---- what is found

map_found : (F : LogEnding → Type 0) (which : Which) (mode : Mode) (name : Option (List ℕ)) (file : Option File)
    (e : LogEnding) → IfNamed name (MapIsRefused which mode file) e → IsModeAnswer e F
map_found F which mode name file e (named, inl missing) = subst (λ x. IsModeAnswer x F) (sym missing.1) tt
map_found F which mode name file e (named, inr refused) = subst (λ x. IsModeAnswer x F) (sym refused.2) tt

named_give : (F : LogEnding → Type 0) (c : Command) (found : Found) → RowsGive (λ e. IsModeAnswer e F) (named_rows c found)
named_give F c found =
    (tt, tt, (map_found F _ _ c.other found.other, (tt, tt, (map_found F _ _ c.domain_map found.domain, tt))))

read_give : (F : LogEnding → Type 0) (c : Command) (found : Found) → RowsGive (λ e. IsModeAnswer e F) (read_rows c found)
read_give F c found = (tt, tt, (map_found F _ _ (Some c.mapfile) found.mapfile, named_give F c found))

printed_found : (F : LogEnding → Type 0) (e : LogEnding) (d : Deeds) → F Done → EndsPrinted e d → IsModeAnswer e F
printed_found F e d is (inl a) = subst (λ x. IsModeAnswer x F) (sym a.0) tt
printed_found F e d is (inr a) = subst (λ x. IsModeAnswer x F) (sym a.0) is

list_found : (F : LogEnding → Type 0) (c : Command) (list : List ℕ) (e : LogEnding) → ListRefused c.options list e
    → IsModeAnswer e F
list_found F c list e (inl a) = subst (λ x. IsModeAnswer x F) (sym a.1) tt
list_found F c list e (inr a) = subst (λ x. IsModeAnswer x F) (sym a.3) tt

created_found : (F : LogEnding → Type 0) (listed rest : Status) (c : Command) (line list : List ℕ) (m : Maps)
    (e : LogEnding) (d : Deeds) → F Done → EndsCreated listed rest c line list m e d → IsModeAnswer e F
created_found F listed rest c line list m e d is (inl a) = subst (λ x. IsModeAnswer x F) (sym a.0) tt
created_found F listed rest c line list m e d is (inr w) =
    answers_have (λ x. IsModeAnswer x F) (Look (ListRefused c.options list) ∷ []) (Saves listed rest c line list m)
    (list_found F c list, tt)
    (λ x f s. answers_have (λ y. IsModeAnswer y F) (Make (save_calls (names_of c.mapfile) s.1) ∷ []) (OnlyAnswers Done)
    ((λ call made b. tt), tt) (λ y g h. subst (λ z. IsModeAnswer z F) (sym h.0) is) x f s.4)
    e d w

not_false : (b : Bool) → (b ≡ false → ⊥) → b ≡ true
not_false true other = refl
not_false false other = absurd (other refl)

-- where no position is open the map is done
pub done_of : (c : Command) (m : Maps) → ((v : LogEnding) → IsNotDone c m v → ⊥) → IsDoneIn (domain_of c m) m.statuses
done_of c m passed = record {
  each = λ x inside. not_false (is_finished_at m.statuses x)
      (λ open_. passed NotDone (record { position = x; inside = inside; unfinished = open_ }, refl));
}

if_asked : (k : Kind) (found : Type 0) → found → IfAsked k found
if_asked Asked found is = is
if_asked _ found is = tt

ends_found : (mode : LogMode) (c : Command) (line list : List ℕ) (m : Maps) (e : LogEnding) (d : Deeds)
    → EndsAs mode c line list m e d → IsModeAnswer e (Finds mode c m)
ends_found (Create listed rest) c line list m e d w =
    created_found (Finds (Create listed rest) c m) listed rest c line list m e d refl w
ends_found (Test true) c line list m e d (inl (r, idle)) =
    subst (λ x. IsModeAnswer x (Finds (Test true) c m)) (sym r.1) (inr (refl, r.0))
ends_found (Test true) c line list m e d (inr (passed, inl b)) =
    subst (λ x. IsModeAnswer x (Finds (Test true) c m)) (sym b.1) tt
ends_found (Test true) c line list m e d (inr (passed, inr w)) =
    subst (λ x. IsModeAnswer x (Finds (Test true) c m)) (sym w.2.0) (inl (refl, done_of c m passed))
ends_found (Test false) c line list m e d w = if_asked (row_of e).kind (Finds (Test false) c m e) w.0
ends_found (Compare finished) c line list m e d w = if_asked (row_of e).kind (Finds (Compare finished) c m e) w.0
ends_found x c line list m e d w = printed_found (Finds x c m) e d refl w

over_found : (c : Command) (line list : List ℕ) (m : Maps) (e : LogEnding) (d : Deeds) → WorksOver c line list m e d
    → IsModeAnswer e (Finds c.mode c m)
over_found c line list m =
    answers_have (λ x. IsModeAnswer x (Finds c.mode c m)) (Take ∷ Look (PlacesRefused c m) ∷ [])
    (EndsAs c.mode c line list m)
    (tt, ((λ e r. subst (λ x. IsModeAnswer x (Finds c.mode c m)) (sym r.is) tt), tt)) (ends_found c.mode c line list m)

there_found : (F : LogEnding → Type 0) (forced : Bool) (name : List ℕ) (file : Option File)
    (more : LogEnding → Deeds → Type 0) → ((e : LogEnding) (d : Deeds) → more e d → IsModeAnswer e F)
    → (e : LogEnding) (d : Deeds) → UnlessThere forced name file more e d → IsModeAnswer e F
there_found F true name file more last e d w = last e d w
there_found F false name file more last e d (inl b) = subst (λ y. IsModeAnswer y F) (sym b.0) tt
there_found F false name file more last e d (inr (x, r, s, i, inl p)) = subst (λ y. IsModeAnswer y F) (sym p.0.1) tt
there_found F false name file more last e d (inr (x, r, s, i, inr w)) = last e _ w.1

works_found : (new : Bool) (c : Command) (line list : List ℕ) (found : Found) (m : Maps) (e : LogEnding) (d : Deeds)
    → WorksAs new c line list found m e d → IsModeAnswer e (Finds c.mode c m)
works_found false c line list found m =
    answers_have (λ x. IsModeAnswer x (Finds c.mode c m)) (Take ∷ read_rows c found) (WorksOver c line list m)
    (tt, read_give (Finds c.mode c m) c found) (over_found c line list m)
works_found true c line list found m =
    answers_have (λ x. IsModeAnswer x (Finds c.mode c m)) (Take ∷ [])
    (UnlessThere c.options.forced c.mapfile found.mapfile
    (Works log_faults (named_rows c found) (WorksOver c line list m)))
    (tt, tt)
    (there_found (Finds c.mode c m) c.options.forced c.mapfile found.mapfile
    (Works log_faults (named_rows c found) (WorksOver c line list m))
    (answers_have (λ x. IsModeAnswer x (Finds c.mode c m)) (named_rows c found) (WorksOver c line list m)
    (named_give (Finds c.mode c m) c found) (over_found c line list m)))

pub answers_are_found : AnswersAreFound
answers_are_found c line list found m e d w = works_found (creates c.mode) c line list found m e d w
