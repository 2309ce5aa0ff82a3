-- What is pending after a barrier, and after a load.
use Rattle.std.specs.Prelude.{⊤}
use Rattle.std.proofs.Common.{◌≡◌, ℕ, ◌+◌, Bool, true, false, if◌then◌else◌, IsTrue, List, [], ◌∷◌, ◌++◌, map, Option, Some, None, refl, sym, ap, ◌∙◌, subst, inl, inr}
use Rattle.std.specs.Str.{bytes_eq}
use Rattle.std.proofs.lemmas.Bool.{cond-true}
use Rattle.crash_site.specs.declared.site.SiteCall.{SiteCall}
use Rattle.crash_site.specs.Files.{File}
use Rattle.crash_site.specs.Calls.{Call, Entry, Done, Failed, map_settle}
use Rattle.crash_site.specs.CallsMade.{Made, BrokeAt}
use Rattle.crash_site.specs.Folder.{Folder, after}
use Rattle.crash_site.specs.Disk.{Showing, Disk, synced, only, at_rest, under_some, after_part, entered, disk_after}
use Rattle.crash_site.specs.SiteState.{SiteState, files_in}
use Rattle.crash_site.specs.SiteChanges.{Keeps, Makes}
use Rattle.crash_site.proofs.DiskLemmas.{run-append}
use Rattle.crash_site.proofs.LawLemmas.{own_name, at_other, part_other, shows_synced, after-append}
use Rattle.mapfile_save.specs.MapNames.{MapNames}
use Rattle.mapfile_save.specs.Loading.{piece_reads, BeginsLoad, barrier_calls}
use Rattle.mapfile_save.specs.SaveStops.{disk_of}
use Rattle.mapfile_resume.specs.Resuming.{NothingPending}

either_same : (b : Bool) (x y z : Showing) → x ≡ z → y ≡ z → (if b then x else y) ≡ z
either_same true x y z one two = one
either_same false x y z one two = two

-- what is sure under a name stays so where another is made sure
sure_stays : (d : Disk) (sure : Option (List ℕ)) (name : List ℕ) → d.shows name ≡ only (d.reads.files name)
    → (under_some sure synced d).shows name ≡ only (d.reads.files name)
sure_stays d None name is = is
sure_stays d (Some other) name is =
    either_same (bytes_eq name other) (synced (d.reads.files name) (d.shows name)) (d.shows name)
    (only (d.reads.files name))
    (ap (synced (d.reads.files name)) is) is

-- after the barrier nothing is pending
barrier_settles : (names : MapNames) (was : Disk) → NothingPending names was (disk_after was (map Done (barrier_calls names)))
barrier_settles names was =
    let looked : Disk = after_part (map_settle names.map) was in
    let settled : Disk = entered was (Done (map_settle names.map)) in
    record {
      mapfile = sure_stays settled was.reads.image names.map
          (cond-true (bytes_eq names.map names.map) (only (was.reads.files names.map)) (looked.shows names.map)
          (own_name names.map));
      image = λ image is apart_map apart.
          shows_synced settled was.reads.image image is
          ∙ ap (synced (was.reads.files image))
          (at_other looked names.map image (λ file s. only file) apart_map
          ∙ part_other was (map_settle names.map) image apart);
      reads = refl;
    }

-- calls that change nothing of a disk, whether they fail or not
abbrev pub Idle : List Call → Type 0
Idle [] = ⊤
Idle (call ∷ calls) = ((d : Disk) → entered d (Done call) ≡ d) × ((d : Disk) (steps : ℕ)
    → entered d (Failed call steps) ≡ d)
    × Idle calls

idle_pieces : (name : List ℕ) (pos : ℕ) (given : List ℕ) (calls : List Call) → Idle calls → Idle (piece_reads name pos given ++ calls)
idle_pieces name pos [] calls h = h
idle_pieces name pos (n ∷ ns) calls h = (λ d. refl, λ d steps. refl, idle_pieces name (pos + n) ns calls h)

-- the reads of a load are
pub idle_load : (name : List ℕ) (file : Option File) (load : List Call) → BeginsLoad name file load → Idle load
idle_load name file load b = subst Idle (sym b.calls_are)
    (idle_pieces name 0 b.given _ (λ d. refl, λ d steps. refl, tt))

idle_made : (d : Disk) (calls : List Call) → Idle calls → disk_after d (map Done calls) ≡ d
idle_made d [] h = refl
idle_made d (call ∷ calls) h = ap (λ e. disk_after e (map Done calls)) (h.0 d) ∙ idle_made d calls h.2

-- they leave the disk
pub made_idle : (d : Disk) (calls : List Call) (old new : List Entry) → Idle calls → Made calls old new → disk_after d new ≡ disk_after d old
made_idle d calls old new h made = ap (disk_after d) made ∙ run-append d old (map Done calls) ∙ idle_made (disk_after d old) calls h

-- also where one of them failed
pub broke_idle : (d : Disk) (at : SiteCall) (calls : List Call) (old new : List Entry) → Idle calls → BrokeAt at calls old new
    → disk_after d new ≡ disk_after d old
broke_idle d at [] old new h b = absurd b
broke_idle d at (call ∷ calls) old new h b =
    elim b [
      | inl x ↦ elim x.1 [
        | inl failed ↦ ap (disk_after d) failed.1 ∙ run-append d old (Failed call failed.0 ∷ [])
            ∙ h.1 (disk_after d old) failed.0
        | inr none ↦ ap (disk_after d) none
      ]
      | inr x ↦ broke_idle d at calls (old ++ Done call ∷ []) new h.2 x ∙ run-append d old (Done call ∷ []) ∙ h.0 (disk_after d old)
    ]

-- after a barrier, and calls that change nothing, nothing is pending
pub nothing_pending : (names : MapNames) (old mid new : SiteState) → IsTrue old.tells → Keeps old mid → Keeps mid new
    → Makes (barrier_calls names) old mid → disk_after (at_rest mid.start) new.calls ≡ disk_after (at_rest mid.start) mid.calls
    → NothingPending names (disk_of old) (disk_of new)
nothing_pending names old mid new tells first second made idle =
    let start : mid.start ≡ old.start = first.start tells in
    let start' : new.start ≡ mid.start = second.start (rw first.tells tells) in
    let now : disk_of new ≡ disk_after (disk_of old) (map Done (barrier_calls names))
    = ap (λ s. disk_after (at_rest s) new.calls) start' ∙ idle ∙ ap (λ s. disk_after (at_rest s) mid.calls) start
    ∙ ap (disk_after (at_rest old.start)) (made.made tells) ∙ run-append (at_rest old.start) old.calls (map Done (barrier_calls names))
    in
    subst (NothingPending names (disk_of old)) (sym now) (barrier_settles names (disk_of old))

-- the barrier changes no file as it reads
pub barrier_reads : (names : MapNames) (old mid : SiteState) → IsTrue old.tells → Keeps old mid → Makes (barrier_calls names) old mid
    → files_in mid ≡ files_in old
barrier_reads names old mid tells keeps made =
    let start : mid.start ≡ old.start = keeps.start tells in
    ap (λ s. (after s mid.calls).files) start ∙ ap (λ calls. (after old.start calls).files) (made.made tells)
    ∙ ap (λ (d : Folder). d.files) (after-append old.start old.calls (map Done (barrier_calls names)))
