-- Calls that read: they change no file, nor what a stop may find of one.
use Rattle.std.proofs.Common.{◌≡◌, ℕ, zero, suc, ◌<◌, Bool, true, false, List, [], ◌∷◌, ◌++◌, map, length, refl, sym, ap, ◌∙◌, inl, inr, subst, arith}
use Rattle.std.specs.Prelude.{⊤}
use Rattle.std.proofs.lemmas.List.Elements.{All-head, All-tail}
use Rattle.crash_site.specs.declared.site.SiteCall.{SiteCall}
use Rattle.crash_site.specs.Calls.{Call, Entry, Done as Returned, Failed, image_read, map_read}
use Rattle.crash_site.specs.CallsMade.{BrokeAt}
use Rattle.crash_site.specs.Folder.{Folder, after, after_entry}
use Rattle.crash_site.specs.Disk.{Disk, entered, disk_after}
use Rattle.crash_site.specs.Left.{in_part, until}
use Rattle.crash_site.specs.SiteState.{SiteState, files_in}
use Rattle.crash_site.proofs.LawLemmas.{after-append}
use Rattle.rescue_rules.specs.Work.{AreMapReads}
use Rattle.program_promise.proofs.FrontLemmas.{IsMapRead, reads_stand}

-- a call that reads a mapfile or the image
abbrev pub is_read : Call → Bool
is_read (map_read name at size answer) = true
is_read (image_read at size answer) = true
is_read call = false

-- it returned, or failed
abbrev pub IsRead : Entry → Type 0
IsRead (Returned c) = is_read c ≡ true
IsRead (Failed c steps) = is_read c ≡ true

abbrev pub AreReads : List Entry → Type 0
AreReads [] = ⊤
AreReads (e ∷ es) = IsRead e × AreReads es

-- ---- what they change

-- an entry that changes nothing, whole or in part
record Stands (e : Entry) : Type 0 where
  files : (d : Folder) → after_entry d e ≡ d
  whole : (d : Disk) → entered d e ≡ d
  part : (d : Disk) → entered d (in_part e) ≡ d

read_stands : (e : Entry) → IsRead e → Stands e
read_stands (Returned (map_read name at size answer)) is =
    record { files = λ d. refl; whole = λ d. refl; part = λ d. refl }
read_stands (Failed (map_read name at size answer) steps) is =
    record { files = λ d. refl; whole = λ d. refl; part = λ d. refl }
read_stands (Returned (image_read at size answer)) is =
    record { files = λ d. refl; whole = λ d. refl; part = λ d. refl }
read_stands (Failed (image_read at size answer) steps) is =
    record { files = λ d. refl; whole = λ d. refl; part = λ d. refl }
read_stands (Returned c) is = absurd (cc)
read_stands (Failed c steps) is = absurd (cc)

pub reads_leave : (d : Folder) (es : List Entry) → AreReads es → after d es ≡ d
reads_leave d [] reads = refl
reads_leave d (e ∷ es) reads =
    ap (λ (f : Folder). after f es) ((read_stands e reads.0).files d) ∙ reads_leave d es reads.1

pub reads_keep : (d : Disk) (es : List Entry) → AreReads es → disk_after d es ≡ d
reads_keep d [] reads = refl
reads_keep d (e ∷ es) reads =
    ap (λ (x : Disk). disk_after x es) ((read_stands e reads.0).whole d) ∙ reads_keep d es reads.1

-- one of them was made in any part, whatever follows it
pub reads_until : (d : Disk) (es more : List Entry) (k : ℕ) → AreReads es → k < length es
    → disk_after d (until k (es ++ more)) ≡ d
reads_until d [] more k reads within = let no : ⊥ = omega (arith, within) in absurd no
reads_until d (e ∷ es) more zero reads within = (read_stands e reads.0).part d
reads_until d (e ∷ es) more (suc k) reads within =
    ap (λ (x : Disk). disk_after x (until k (es ++ more))) ((read_stands e reads.0).whole d)
    ∙ reads_until d es more k reads.1 (omega (arith, within))

-- at every stop of them
pub reads_at : (d : Disk) (es : List Entry) (k : ℕ) → AreReads es → disk_after d (until k es) ≡ d
reads_at d [] zero reads = refl
reads_at d [] (suc k) reads = refl
reads_at d (e ∷ es) zero reads = (read_stands e reads.0).part d
reads_at d (e ∷ es) (suc k) reads =
    ap (λ (x : Disk). disk_after x (until k es)) ((read_stands e reads.0).whole d) ∙ reads_at d es k reads.1

-- ---- which calls are reads

pub both_are : (xs ys : List Entry) → AreReads xs → AreReads ys → AreReads (xs ++ ys)
both_are [] ys a b = b
both_are (x ∷ xs) ys a b = (a.0, both_are xs ys a.1 b)

pub same_reads : (xs ys : List Entry) → xs ≡ ys → AreReads ys → AreReads xs
same_reads xs ys is reads = subst AreReads (sym is) reads

-- reads of maps that returned
map_is_read : (c : Call) → IsMapRead c → is_read c ≡ true
map_is_read (map_read name at size answer) is = refl
map_is_read c is = absurd (cc)

pub maps_are : (calls : List Call) → AreMapReads calls → AreReads (map Returned calls)
maps_are [] reads = tt
maps_are (c ∷ calls) reads =
    (map_is_read c (All-head IsMapRead c calls reads), maps_are calls (All-tail IsMapRead c calls reads))

-- and others after them
pub maps_then : (front : List Call) (rest calls : List Entry) → calls ≡ map Returned front ++ rest → AreMapReads front
    → AreReads rest → AreReads calls
maps_then front rest calls is reads later =
    same_reads calls (map Returned front ++ rest) is (both_are (map Returned front) rest (maps_are front reads) later)

-- and such of which one failed
pub maps_broke : (at : SiteCall) (calls : List Call) (old new : List Entry) → AreMapReads calls → AreReads old
    → BrokeAt at calls old new → AreReads new
maps_broke at [] old new reads before broke = absurd broke
maps_broke at (c ∷ calls) old new reads before (inl (name, inl grew)) =
    same_reads new (old ++ Failed c grew.0 ∷ []) grew.1
    (both_are old (Failed c grew.0 ∷ []) before (map_is_read c (All-head IsMapRead c calls reads), tt))
maps_broke at (c ∷ calls) old new reads before (inl (name, inr same)) = same_reads new old same before
maps_broke at (c ∷ calls) old new reads before (inr broke) =
    maps_broke at calls (old ++ Returned c ∷ []) new (All-tail IsMapRead c calls reads)
    (both_are old (Returned c ∷ []) before (map_is_read c (All-head IsMapRead c calls reads), tt)) broke

-- calls that returned, and read maps
pub record AllReads (calls : List Entry) : Type 0 where
  pub maps : List Call
  pub are : AreMapReads maps
  pub all : calls ≡ map Returned maps

-- calls that returned and read maps alone leave the files as they read
pub files_stand : (calls : List Entry) (old new : SiteState) → AllReads calls → new.start ≡ old.start
    → new.calls ≡ old.calls ++ calls → files_in new ≡ files_in old
files_stand calls old new r same grew =
    ap (λ (s : Folder). (after s new.calls).files) same
    ∙ ap (λ (cs : List Entry). (after old.start cs).files)
    (grew ∙ ap (λ (cs : List Entry). old.calls ++ cs) r.all)
    ∙ ap (λ (d : Folder). d.files) (after-append old.start old.calls (map Returned r.maps)
    ∙ reads_stand r.maps (after old.start old.calls) r.are)
