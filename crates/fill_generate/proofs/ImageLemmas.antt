-- A sweep that looks up its pieces leaves the output as it reads.
use Rattle.std.proofs.Common.{map, ◌≡◌, ◌≢◌, ℕ, true, IsTrue, List, [], ◌∷◌, ◌++◌, take, drop, All, Option, Some, None, refl, sym, ap, subst, ◌∙◌}
use Rattle.std.proofs.lemmas.List.{map-append}
use Rattle.std.proofs.lemmas.List.Elements.{All-weaker}
use Rattle.crash_site.specs.Files.{File, bytes_of, empty_file, put, file_named}
use Rattle.crash_site.specs.Calls.{Call, Entry, Done, draft_append, draft_sync, draft_publish, map_settle}
use Rattle.crash_site.specs.Folder.{Folder, after}
use Rattle.crash_site.specs.SiteState.{SiteState, image_in}
use Rattle.crash_site.specs.SiteChanges.{Keeps, Makes}
use Rattle.crash_site.proofs.LawLemmas.{put_other, after-append}
use Rattle.mapfile_text.specs.Pieces.{pieces_of}
use Rattle.mapfile_save.specs.MapNames.{MapNames}
use Rattle.mapfile_save.specs.Saving.{save_calls}
use Rattle.rescue_rules.specs.Setting.{Setting, place}
use Rattle.rescue_rules.specs.Snapshots.{Snapshot, text_of}
use Rattle.rescue_rules.specs.Deeds.{save_of, deed_calls}
use Rattle.sweep_rules.specs.Sweep.{Sweep, Swept, generator, after_piece, due_save}
use Rattle.sweep_rules.specs.SweepWork.{sweep_calls}
use Rattle.fill_generate.specs.Sweeping.{IsApart}
use Rattle.fill_generate.specs.Steps.{deed_of, IsLookedUp}

-- the open image is no file of a mapfile
abbrev Apart : MapNames → Option (List ℕ) → Type 0
Apart names image = (name : List ℕ) → image ≡ Some name → (name ≢ names.map) × (name ≢ names.draft)

-- it stays open, and reads as it did
record Untouched (d e : Folder) : Type 0 where
  image : e.image ≡ d.image
  file : file_named e.image e.files ≡ file_named d.image d.files

untouched_more : (a b c : Folder) → Untouched a b → Untouched b c → Untouched a c
untouched_more a b c f g = record { image = g.image ∙ f.image; file = g.file ∙ f.file }

put_apart : (files : List ℕ → Option File) (image : Option (List ℕ)) (name : List ℕ) (file : Option File)
    → ((n : List ℕ) → image ≡ Some n → n ≢ name) → file_named image (put files name file) ≡ file_named image files
put_apart files None name file apart = refl
put_apart files (Some n) name file apart = put_other files name n file (apart n refl)

-- a save's calls after its beginning
abbrev filling : (names : MapNames) → (pieces : List (List ℕ)) → List Entry
filling names pieces =
    map Done (map draft_append pieces ++ draft_sync ∷ draft_publish names.map ∷ map_settle names.map ∷ [])

abbrev drafting : (List ℕ → Option File) → Option (List ℕ) → (draft : List ℕ) → Folder
drafting files image draft = record { files = files; image = image; draft = Some draft }

filled : (files : List ℕ → Option File) (image : Option (List ℕ)) (names : MapNames) (pieces : List (List ℕ))
    → Apart names image → Untouched (drafting files image names.draft) (after (drafting files image names.draft) (filling names pieces))
filled files image names [] apart = record {
  image = refl;
  file = put_apart (put files names.draft None) image names.map (files names.draft) (λ n is. (apart n is).0)
      ∙ put_apart files image names.draft None (λ n is. (apart n is).1);
}
filled files image names (piece ∷ pieces) apart =
    let more : List ℕ → Option File = put files names.draft (Some (record { bytes = bytes_of (files names.draft) ++ piece; regular = true })) in
    let first : Untouched (drafting files image names.draft) (drafting more image names.draft) = record {
      image = refl;
      file = put_apart files image names.draft (Some (record { bytes = bytes_of (files names.draft) ++ piece; regular = true }))
          (λ n is. (apart n is).1);
    } in
    untouched_more (drafting files image names.draft) (drafting more image names.draft)
    (after (drafting more image names.draft) (filling names pieces)) first (filled more image names pieces apart)

saved : (d : Folder) (names : MapNames) (text : List ℕ) → Apart names d.image
    → Untouched d (after d (map Done (save_calls names text)))
saved d names text apart =
    let begun : List ℕ → Option File = put d.files names.draft (Some empty_file) in
    untouched_more d (drafting begun d.image names.draft) (after (drafting begun d.image names.draft) (filling names (pieces_of text)))
    (record { image = refl; file = put_apart d.files d.image names.draft (Some empty_file) (λ n is. (apart n is).1) })
    (filled begun d.image names (pieces_of text) apart)

saved_if : (d : Folder) (s : Setting) (p : Option Snapshot) → Apart s.names d.image
    → Untouched d (after d (map Done (save_of s p)))
saved_if d s None apart = record { image = refl; file = refl }
saved_if d s (Some p) apart = saved d s.names (text_of s.line p) apart

apart_on : (names : MapNames) (d e : Folder) → Untouched d e → Apart names d.image → Apart names e.image
apart_on names d e u apart = λ n is. apart n (sym u.image ∙ is)

swept_untouched : (s : Setting) (m : Sweep) (es : List Swept) (d : Folder) → Apart s.names d.image
    → Untouched d (after d (map Done (sweep_calls s (generator s) m es)))
swept_untouched s m [] d apart = record { image = refl; file = refl }
swept_untouched s m (e ∷ es) d apart =
    let w = generator s in
    let front : List Call = deed_calls s (deed_of w m e) in
    let back : List Call = sweep_calls s w (after_piece w m e) es in
    let mid : Folder = after d (map Done front) in
    let one : Untouched d mid = saved_if d s (due_save w m e) apart in
    let is : after d (map Done (front ++ back)) ≡ after mid (map Done back) =
    ap (after d) (map-append Done front back) ∙ after-append d (map Done front) (map Done back) in
    subst (λ (f : Folder). Untouched d f) (sym is)
    (untouched_more d mid (after mid (map Done back)) one
    (swept_untouched s (after_piece w m e) es mid (apart_on s.names d mid one apart)))

-- what is looked up in it then is what it held before
pub looked_before : (s : Setting) (m : Sweep) (es : List Swept) (a b : SiteState) → Keeps a b
    → Makes (sweep_calls s (generator s) m es) a b → (e : Swept) → IsLookedUp s b e → IsLookedUp s a e
looked_before s m es a b keeps makes e looked = λ tells apart.
    let calls : List Entry = map Done (sweep_calls s (generator s) m es) in
    let d : Folder = after a.start a.calls in
    let is : after b.start b.calls ≡ after d calls =
    ap (λ (f : Folder). after f b.calls) (keeps.start tells) ∙ ap (after a.start) (makes.made tells) ∙ after-append a.start a.calls calls in
    let same : Untouched d (after b.start b.calls) =
    subst (λ (f : Folder). Untouched d f) (sym is) (swept_untouched s m es d apart) in
    looked (rw keeps.tells tells) (apart_on s.names d (after b.start b.calls) same apart)
    ∙ ap (λ (f : Option File). take e.len (drop (place s e.pos) (bytes_of f))) same.file

pub all_given : (s : Setting) (a : SiteState) (es : List Swept) → All (IsLookedUp s a) es → IsTrue a.tells → IsApart s.names a
    → All (λ e. e.got ≡ take e.len (drop (place s e.pos) (bytes_of (image_in a)))) es
all_given s a es all tells apart =
    All-weaker (IsLookedUp s a) (λ e. e.got ≡ take e.len (drop (place s e.pos) (bytes_of (image_in a)))) (λ e looked. looked tells apart) es all
