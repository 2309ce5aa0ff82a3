-- The calls of a whole call: the open of the output, the barrier, reads, and perhaps a save.
use Rattle.std.proofs.Common.{◌≡◌, ℕ, Bool, true, false, if◌then◌else◌, List, [], ◌∷◌, ◌++◌, map, length, Option, Some, None, refl, sym, ap, ◌∙◌, inl, inr, subst, append_assoc, append-nil}
use Rattle.std.specs.List.{list_any}
use Rattle.std.proofs.lemmas.List.{map-append}
use Rattle.block_list.specs.declared.status.Status.{Status}
use Rattle.mapfile_text.specs.declared.state.MapState.{MapState}
use Rattle.faulty_source.specs.Journal.{Reading, is_whole}
use Rattle.crash_site.specs.declared.site.SiteCall.{SiteCall}
use Rattle.crash_site.specs.declared.site.SiteCall.TheVariants.{MapRead as MapReadCall}
use Rattle.crash_site.specs.Files.{File}
use Rattle.crash_site.specs.Calls.{Call, Entry, Done as Returned, Failed, image_open, image_read, image_sync, map_settle}
use Rattle.crash_site.specs.CallsMade.{BrokeAt}
use Rattle.crash_site.specs.Folder.{opened}
use Rattle.crash_site.specs.Along.{GoesAlong}
use Rattle.crash_site.specs.Disk.{only}
use Rattle.mapfile_save.specs.MapNames.{names_of}
use Rattle.mapfile_save.specs.Loading.{IsLoad, barrier_calls}
use Rattle.mapfile_save.specs.Saving.{save_calls}
use Rattle.rescue_rules.specs.Start.{Stands as StandsFor}
use Rattle.rescue_rules.specs.Stops.{is_sync}
use Rattle.rescue_rules.specs.Work.{AreMapReads}
use Rattle.program_promise.specs.Work.{Deeds, IsIdle, Take, Look as LookAt, Make, Works}
use Rattle.program_promise.proofs.FrontLemmas.{load_reads}
use Rattle.program_promise.proofs.ReadLemmas.{AreReads, both_are, maps_are, maps_broke, same_reads}
use Rattle.program_promise.proofs.SavedLemmas.{HasSaved}
use Rattle.rescue_verify.specs.declared.halt.Halt.{Halt}
use Rattle.rescue_verify.specs.declared.halt.Halt.TheVariants.{NoMemory as NoRoom, SourceLost as InputLost, ImageFault}
use Rattle.rescue_verify.specs.declared.tally.Tally.{Tally}
use Rattle.rescue_verify.specs.Pieces.{NoneFrom, end_of_reads}
use Rattle.rescue_verify.specs.Looks.{Look, reads_of, look_call, look_calls}
use Rattle.rescue_verify.specs.Comparing.{Comparison, place_in, tally_of, HaltsAt}
use Rattle.ddrescueverify_words.specs.Command.{Command}
use Rattle.ddrescueverify_cli.specs.declared.ending.VerifyEnding.{VerifyEnding}
use Rattle.ddrescueverify_cli.specs.declared.ending.VerifyEnding.TheVariants.{NoOutput}
use Rattle.ddrescueverify_cli.specs.Answers.{is_saved}
use Rattle.ddrescueverify_cli.specs.Asked.{comparison_of, text_of}
use Rattle.ddrescueverify_cli.specs.Refusals.{MapfileRefused, OutputRefused, PlacesRefused}
use Rattle.ddrescueverify_cli.specs.Outside.{Found}
use Rattle.ddrescueverify_cli.specs.Work.{EndsSaved, Halts, Completes as SavesAll, Verifies, answer_of_halt, verify_faults, verify_rows}

-- ---- calls that read

-- the reads of the image that looks make
look_is_read : (b : Bool) (at n k : ℕ) → AreReads (map Returned (if b then image_read at n (Some k) ∷ [] else []))
look_is_read true at n k = (refl, tt)
look_is_read false at n k = tt

pub looks_are : (place : ℕ → ℕ) (looks : List Look) → AreReads (map Returned (look_calls place looks))
looks_are place [] = tt
looks_are place (l ∷ looks) =
    let at : ℕ = place l.read.pos in
    same_reads (map Returned (look_call at l ++ look_calls place looks))
    (map Returned (look_call at l) ++ map Returned (look_calls place looks))
    (map-append Returned (look_call at l) (look_calls place looks))
    (both_are (map Returned (look_call at l)) (map Returned (look_calls place looks))
    (look_is_read (is_whole l.read) at l.read.asked (length l.there)) (looks_are place looks))

-- ---- the shape of the calls

-- the open of the output, and the barrier
abbrev pub opening_calls : Command → List Call
opening_calls c = image_open c.outfile false ∷ barrier_calls (names_of c.mapfile)

abbrev pub opening : Command → List Entry
opening c = map Returned (opening_calls c)

-- The calls of a whole call: the barrier didn't return; or it did, the output is there, and only reads came after it,
-- and then perhaps a save.
pub data Shape (c : Command) (there : Type 0) (saved : Bool) (IsText : List ℕ → Type 0) (calls : List Entry) : Type 0 where
  Early : saved ≡ false → list_any is_sync calls ≡ false → GoesAlong (opening_calls c) calls → Shape c there saved IsText calls
  Reads : (reads : List Entry) → there → saved ≡ false → AreReads reads → calls ≡ opening c ++ reads
      → Shape c there saved IsText calls
  Saving : (reads rest : List Entry) (text : List ℕ) → there → AreReads reads → IsText text
      → HasSaved (names_of c.mapfile) text [] rest
      → (saved ≡ true → rest ≡ map Returned (save_calls (names_of c.mapfile) text))
      → calls ≡ opening c ++ (reads ++ rest) → Shape c there saved IsText calls

none_goes : (c : Command) (calls : List Entry) → calls ≡ [] → GoesAlong (opening_calls c) calls
none_goes c calls none = subst (GoesAlong (opening_calls c)) (sym none) tt

module _ (c : Command) (there : Type 0) (IsText : List ℕ → Type 0) where
  -- nothing was called
  nothing : (saved : Bool) (calls : List Entry) → saved ≡ false → calls ≡ [] → Shape c there saved IsText calls
  nothing saved calls short none =
      Early short (ap (list_any is_sync) none) (none_goes c calls none)

  open_broke : (call : SiteCall) (saved : Bool) (calls : List Entry) → saved ≡ false
      → BrokeAt call (image_open c.outfile false ∷ []) [] calls → Shape c there saved IsText calls
  open_broke call saved calls short (inl (named, inl grew)) =
      Early short (ap (list_any is_sync) grew.1) (subst (GoesAlong (opening_calls c)) (sym grew.1) (refl, refl))
  open_broke call saved calls short (inl (named, inr same)) = nothing saved calls short same
  open_broke call saved calls short (inr broke) = absurd broke

  only_opened : (saved : Bool) (calls rest : List Entry) → saved ≡ false
      → calls ≡ Returned (image_open c.outfile false) ∷ rest → rest ≡ [] → Shape c there saved IsText calls
  only_opened saved calls rest short grew none =
      let is : calls ≡ Returned (image_open c.outfile false) ∷ [] =
      grew ∙ ap (λ (r : List Entry). Returned (image_open c.outfile false) ∷ r) none in
      Early short (ap (list_any is_sync) is) (subst (GoesAlong (opening_calls c)) (sym is) (refl, tt))

  barrier_broke : (call : SiteCall) (saved : Bool) (calls rest : List Entry) → saved ≡ false
      → calls ≡ Returned (image_open c.outfile false) ∷ rest
      → BrokeAt call (barrier_calls (names_of c.mapfile)) [] rest → Shape c there saved IsText calls
  barrier_broke call saved calls rest short grew (inl (named, inl settle)) =
      let is : calls ≡ Returned (image_open c.outfile false) ∷ Failed (map_settle c.mapfile) settle.0 ∷ [] =
      grew ∙ ap (λ (r : List Entry). Returned (image_open c.outfile false) ∷ r) settle.1 in
      Early short (ap (list_any is_sync) is) (subst (GoesAlong (opening_calls c)) (sym is) (refl, (refl, refl)))
  barrier_broke call saved calls rest short grew (inl (named, inr same)) = only_opened saved calls rest short grew same
  barrier_broke call saved calls rest short grew (inr (inl (named, inl sync))) =
      let is : calls
      ≡ Returned (image_open c.outfile false) ∷ Returned (map_settle c.mapfile) ∷ Failed image_sync sync.0 ∷ [] =
      grew ∙ ap (λ (r : List Entry). Returned (image_open c.outfile false) ∷ r) sync.1 in
      Early short (ap (list_any is_sync) is) (subst (GoesAlong (opening_calls c)) (sym is) (refl, (refl, (refl, refl))))
  barrier_broke call saved calls rest short grew (inr (inl (named, inr same))) =
      let is : calls ≡ Returned (image_open c.outfile false) ∷ Returned (map_settle c.mapfile) ∷ [] =
      grew ∙ ap (λ (r : List Entry). Returned (image_open c.outfile false) ∷ r) same in
      Early short (ap (list_any is_sync) is) (subst (GoesAlong (opening_calls c)) (sym is) (refl, (refl, tt)))
  barrier_broke call saved calls rest short grew (inr (inr broke)) = absurd broke

-- the text of the new mapfile
pub record IsNewText (c : Command) (line : List ℕ) (mapfile : Option File) (end : ℕ) (looks : List Look) (text : List ℕ)
    : Type 0 where
  pub statuses : List Status
  pub shown : MapState
  pub stands : StandsFor mapfile end statuses (Some shown)
  pub all : NoneFrom (comparison_of c.options end statuses).compared (end_of_reads 0 (reads_of looks))
  pub is : text ≡ text_of line statuses shown looks

unsaved_halt : (halt : Halt) → is_saved (answer_of_halt halt) ≡ false
unsaved_halt NoRoom = refl
unsaved_halt InputLost = refl
unsaved_halt ImageFault = refl

-- what a comparison that halted called after its looks
halted_reads : (halt : Halt) (p : Comparison) (from : ℕ) (reads : List Reading) (calls : List Entry)
    → HaltsAt halt p from reads calls → AreReads calls
halted_reads NoRoom p from reads calls h = same_reads calls [] h.1 tt
halted_reads InputLost p from reads calls h = same_reads calls [] h.4 tt
halted_reads ImageFault p from reads calls (r, piece, whole, is, inl lost) = same_reads calls _ lost.1 (refl, tt)
halted_reads ImageFault p from reads calls (r, piece, whole, is, inr same) = same_reads calls [] same tt

-- a save, by what its work says
saved_rest : (c : Command) (quiet : Bool) (t : Tally) (text : List ℕ) (e : VerifyEnding) (d : Deeds)
    → Works verify_faults (Make (save_calls (names_of c.mapfile) text) ∷ []) (EndsSaved quiet t) e d
    → HasSaved (names_of c.mapfile) text [] d.gain.calls
    × (is_saved e ≡ true → d.gain.calls ≡ map Returned (save_calls (names_of c.mapfile) text))
saved_rest c quiet t text e d (inl (call, is, broke, only)) =
    (inr (call, broke), λ saved. let no : is_saved e ≡ false = ap is_saved is in absurd (cc))
saved_rest c quiet t text e d (inr (rest, is, (answer, idle))) =
    let all : d.gain.calls ≡ map Returned (save_calls (names_of c.mapfile) text) =
    is ∙ ap (λ (r : List Entry). map Returned (save_calls (names_of c.mapfile) text) ++ r) idle.gain.calls
    ∙ append-nil (map Returned (save_calls (names_of c.mapfile) text)) in
    (inl all, λ saved. all)

module _ (c : Command) (line : List ℕ) (found : Found) (end : ℕ) (looks : List Look) where
  abbrev OfText : List ℕ → Type 0
  OfText = IsNewText c line found.mapfile end looks

  abbrev IsThere : Type 0
  IsThere = found.output ≡ None → ⊥

  abbrev ShapeOf : VerifyEnding → List Entry → Type 0
  ShapeOf e calls = Shape c IsThere (is_saved e) OfText calls

  -- reads after the barrier
  reading : (e : VerifyEnding) (calls rest later : List Entry) → IsThere → is_saved e ≡ false
      → calls ≡ Returned (image_open c.outfile false) ∷ rest
      → rest ≡ map Returned (barrier_calls (names_of c.mapfile)) ++ later → AreReads later → ShapeOf e calls
  reading e calls rest later there short grew is reads =
      Reads later there short reads (grew ∙ ap (λ (r : List Entry). Returned (image_open c.outfile false) ∷ r) is)

  -- a comparison after the load
  comparing : (e : VerifyEnding) (d : Deeds) (calls rest later : List Entry) (load : List Call) → IsThere → AreMapReads load
      → calls ≡ Returned (image_open c.outfile false) ∷ rest
      → rest ≡ map Returned (barrier_calls (names_of c.mapfile)) ++ later
      → later ≡ map Returned load ++ d.gain.calls → Verifies c line found end looks e d → ShapeOf e calls
  comparing e d calls rest later load there maps grew is loaded v =
      let place : ℕ → ℕ = place_in (comparison_of c.options end v.statuses) in
      let mine : d.gain.calls ≡ map Returned (look_calls place looks) ++ v.compares.rest.gain.calls =
      ap (λ (x : Deeds). x.gain.calls) v.compares.is in
      let front : List Entry = map Returned load ++ map Returned (look_calls place looks) in
      let reads : AreReads front =
      both_are (map Returned load) (map Returned (look_calls place looks)) (maps_are load maps) (looks_are place looks) in
      let all : later ≡ front ++ v.compares.rest.gain.calls =
      loaded ∙ ap (λ (r : List Entry). map Returned load ++ r) mine
      ∙ sym (append_assoc (map Returned load) (map Returned (look_calls place looks)) v.compares.rest.gain.calls) in
      elim v.compares.ends [
        | Halts halt answer opens times halts ↦
            reading e calls rest later there (ap is_saved answer ∙ unsaved_halt halt) grew is
            (same_reads later (front ++ v.compares.rest.gain.calls) all
            (both_are front v.compares.rest.gain.calls reads
            (halted_reads halt (comparison_of c.options end v.statuses) _ v.compares.rest.gain.reads v.compares.rest.gain.calls
            halts)))
        | SavesAll none works ↦
            let s = saved_rest c c.options.quiet (tally_of looks) (text_of line v.statuses v.shown looks) e v.compares.rest
            works in
            Saving front v.compares.rest.gain.calls (text_of line v.statuses v.shown looks) there reads
            (record { statuses = v.statuses; shown = v.shown; stands = v.stands; all = none; is = refl }) s.0 s.1
            (grew ∙ ap (λ (r : List Entry). Returned (image_open c.outfile false) ∷ r)
            (is ∙ ap (λ (r : List Entry). map Returned (barrier_calls (names_of c.mapfile)) ++ r) all))
      ]

  unsaved_output : (e : VerifyEnding) → OutputRefused found.output e → is_saved e ≡ false
  unsaved_output e refused = ap is_saved refused.1

  unsaved_mapfile : (e : VerifyEnding) → MapfileRefused found.mapfile e → is_saved e ≡ false
  unsaved_mapfile e (inl none) = ap is_saved none.1
  unsaved_mapfile e (inr refused) = ap is_saved refused.3

  -- nothing was called after the load
  load_alone : (x : Deeds) (later : List Entry) (load : List Call) → IsLoad c.mapfile found.mapfile load
      → later ≡ map Returned load ++ x.gain.calls → IsIdle x → AreReads later
  load_alone x later load loaded all idle =
      same_reads later (map Returned load)
      (all ∙ ap (λ (r : List Entry). map Returned load ++ r) idle.gain.calls ∙ append-nil (map Returned load))
      (maps_are load (load_reads c.mapfile found.mapfile load loaded.begins))

  after_load : (e : VerifyEnding) (x : Deeds) (calls rest later : List Entry) (load : List Call)
      → (found.output ≡ None → ⊥) → calls ≡ Returned (image_open c.outfile false) ∷ rest
      → rest ≡ map Returned (barrier_calls (names_of c.mapfile)) ++ later → IsLoad c.mapfile found.mapfile load
      → later ≡ map Returned load ++ x.gain.calls
      → Works verify_faults
      (LookAt (MapfileRefused found.mapfile) ∷ LookAt (PlacesRefused c.options end) ∷ Take ∷ [])
      (Verifies c line found end looks) e x
      → ShapeOf e calls
  after_load e x calls rest later load there grew is loaded all (inl (refused, idle)) =
      reading e calls rest later there (unsaved_mapfile e refused) grew is (load_alone x later load loaded all idle)
  after_load e x calls rest later load there grew is loaded all (inr (pass, inl (far, idle))) =
      reading e calls rest later there (ap is_saved far.1) grew is (load_alone x later load loaded all idle)
  after_load e x calls rest later load there grew is loaded all (inr (pass, inr (near, inl (starved, idle)))) =
      reading e calls rest later there (ap is_saved starved) grew is (load_alone x later load loaded all idle)
  after_load e x calls rest later load there grew is loaded all (inr (pass, inr (near, inr v))) =
      comparing e x calls rest later load there (load_reads c.mapfile found.mapfile load loaded.begins) grew is all v

  pub shape_of : (e : VerifyEnding) (d : Deeds)
      → Works verify_faults (verify_rows c found end) (Verifies c line found end looks) e d → ShapeOf e d.gain.calls
  shape_of e d (inl (is, idle)) = nothing c IsThere OfText (is_saved e) d.gain.calls (ap is_saved is) idle.gain.calls
  shape_of e d (inr (inl (names, idle))) =
      nothing c IsThere OfText (is_saved e) d.gain.calls (ap is_saved names.3) idle.gain.calls
  shape_of e d (inr (inr (p, inl (is, opens, gain)))) =
      nothing c IsThere OfText (is_saved e) d.gain.calls (ap is_saved is) gain.calls
  shape_of e d (inr (inr (p, inr (opens, opened, inl (call, is, broke, only))))) =
      open_broke c IsThere OfText call (is_saved e) d.gain.calls (ap is_saved is) broke
  shape_of e d (inr (inr (p, inr (opens, opened, inr (rest, grew, inl (refused, idle)))))) =
      only_opened c IsThere OfText (is_saved e) d.gain.calls rest (unsaved_output e refused) grew idle.gain.calls
  shape_of e d (inr (inr (p, inr (opens, opened, inr (rest, grew, inr (q, inl (call, is, broke, only))))))) =
      barrier_broke c IsThere OfText call (is_saved e) d.gain.calls rest (ap is_saved is) grew broke
  shape_of e d (inr (inr (
    p,
    inr (
      opens,
      opened,
      inr (
        rest,
        grew,
        inr (
          q,
          inr (
            later,
            is,
            inl
                (load, answer, begins, broke, only),
          ),
        ),
      ),
    ),
  ))) =
      reading e d.gain.calls rest later (λ none. q NoOutput (none, refl)) (ap is_saved answer) grew is
      (maps_broke MapReadCall load [] later (load_reads c.mapfile found.mapfile load begins) tt broke)
  shape_of e d (inr (inr (
    p,
    inr (
      opens,
      opened,
      inr (
        rest,
        grew,
        inr (
          q,
          inr (
            later,
            is,
            inr (inl
                (load, answer, begins, all, only)),
          ),
        ),
      ),
    ),
  ))) =
      reading e d.gain.calls rest later (λ none. q NoOutput (none, refl)) (ap is_saved answer) grew is
      (same_reads later (map Returned load) all (maps_are load (load_reads c.mapfile found.mapfile load begins)))
  shape_of e d (inr (inr (
    p,
    inr (
      opens,
      opened,
      inr (
        rest,
        grew,
        inr (
          q,
          inr (
            later,
            is,
            inr (inr
                (load, last, loaded, all, w)),
          ),
        ),
      ),
    ),
  ))) =
      after_load e _ d.gain.calls rest later load (λ none. q NoOutput (none, refl)) grew is loaded all w
