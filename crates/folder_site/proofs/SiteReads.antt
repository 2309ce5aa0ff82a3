-- How the files of a site over a kernel read.
use Rattle.std.proofs.Common.{◌≡◌, ℕ, false, IsTrue, List, [], length, Option, Some, None, refl, sym, ◌∙◌, ap, subst}
use mathlib.Core.Logic.{∥∥₁_map}
use Rattle.kernel_files.specs.Volume.{Volume, Entry as Step}
use Rattle.kernel_files.specs.Answers.{Told, volume, bytes_at}
use Rattle.crash_site.specs.Files.{file_named}
use Rattle.crash_site.specs.Folder.{Folder}
use Rattle.crash_site.specs.Disk.{Disk}
use Rattle.crash_site.specs.SiteState.{files_in, image_in}
use Rattle.site_record.specs.Record.{Note, Noted}
use Rattle.kernel_laws.specs.Refines.{as_file, read_at, files_of, Follows, ImageIs}
use Rattle.kernel_laws.specs.Laws.{first_folder}
use Rattle.kernel_laws.specs.Deeds.{calls_of, folder_after, total, Suits}
use Rattle.kernel_laws.specs.Site.{Opened, AreLeft}
use Rattle.kernel_laws.proofs.Deeds.{reads_after}
use Rattle.kernel_laws.proofs.AnyStop.{any_stop_is_left}
use Rattle.kernel_laws.proofs.Stands.{follows_to}
use Rattle.kernel_laws.proofs.Drops.{first_stands}
use Rattle.real_files.specs.Ahead.{Ahead, nothing_held}
use Rattle.folder_site.specs.Told.{tells_both, site_told, Holds, IsHeld, IsNewSite, IsOwnFolder, IsSuited}
use Rattle.folder_site.proofs.Recording.{Counted, left_of_both, right_of_both, stands_as}
use Rattle.folder_site.proofs.AheadReads.{nothing_is_held}

pub suits_all : (v : Volume) (ns : List Note) → IsSuited v → Suits v ns
suits_all v ns h = record { rest = h.0; alone = λ name make _. h.1 name }

none_isnt : (i : ℕ) → None ≡ Some i → ⊥
none_isnt i e = cc

no_name : (n : List ℕ) → None ≡ Some n → ⊥
no_name n e = cc

no_map : (m : List ℕ × ℕ) → None ≡ Some m → ⊥
no_map m e = cc

no_image : (m : List ℕ × Option (List ℕ)) → None ≡ Some m → ⊥
no_image m e = cc

pub stops_left : (t : Told) (r : Noted) (o : Opened) (map : Option (List ℕ × ℕ)) (ahead : Ahead)
    → (IsTrue t.tells → Holds t r o map ahead) → IsTrue (tells_both t r) → AreLeft t.start r.notes t.calls
stops_left t r o map ahead was both =
    let h = was (left_of_both t.tells r.tells both) in
    any_stop_is_left t.start r.notes t.calls o (h.stands (right_of_both t.tells r.tells both))
    (suits_all t.start r.notes h.start)

module _ (t : Told) (r : Noted) (o : Opened) (map : Option (List ℕ × ℕ)) (ahead : Ahead) (h : Holds t r o map ahead)
    (told : IsTrue r.tells) (open_ : o.is_dropped ≡ false) where
  -- a disk that reads as the record says, and follows the files
  now : (d : Disk) × (d.reads ≡ folder_after t.start r.notes t.calls) × Follows (volume t) d o.draft o.image
  now =
      let s = h.stands told in
      let suits : Suits t.start r.notes = suits_all t.start r.notes h.start in
      let to =
      follows_to t.start r.notes t.calls o.draft o.image suits s.counted (s.run open_ suits).runs in (
        to.0,
        ap (λ (d : Disk). d.reads) to.1 ∙ reads_after (first_folder t.start) (calls_of r.notes t.calls),
        to.2,
      )

  pub files_read : (n : List ℕ) → files_in (site_told t r) n ≡ files_of (volume t) n
  files_read n = sym (ap (λ (f : Folder). f.files n) now.1) ∙ now.2.files.reads n

  pub image_reads : (i : ℕ) → o.image ≡ Some i → image_in (site_told t r) ≡ as_file (Some (bytes_at t i))
  image_reads i is =
      let m : ImageIs (volume t) now.0 (Some i) =
      subst (λ (k : Option ℕ). ImageIs (volume t) now.0 k) is now.2.image in
      ap (λ (k : Option (List ℕ)). file_named k (files_in (site_told t r)))
      (sym (ap (λ (f : Folder). f.image) now.1) ∙ m.1.image)
      ∙ files_read m.0 ∙ ap (λ (k : Option ℕ). as_file (read_at (volume t).nodes k)) m.1.begun.named

-- A new site.

pub no_folder : IsOwnFolder None
no_folder name text e = absurd (no_image (name, Some text) e)

pub new_counted : (t : Told) (r : Noted) → IsNewSite t r → Counted t r
new_counted t r h both =
    ap total (h.notes (right_of_both t.tells r.tells both))
    ∙ sym (ap (λ (l : List Step). length l) (h.calls (left_of_both t.tells r.tells both)))

pub new_holds : (t : Told) (r : Noted) (o : Opened) (ahead : Ahead) → IsNewSite t r → o.image ≡ None
    → o.image_name ≡ None → o.draft ≡ None → o.draft_name ≡ None → ∥ (IsTrue t.tells → Holds t r o None ahead) ∥₁
new_holds t r o ahead h image image_name draft draft_name =
    ∣ (λ told. record {
      start = h.start told;
      stands = λ m.
          stands_as refl (sym (h.notes m)) (sym (h.calls told))
          (first_stands t.start o image image_name draft draft_name);
      image = record {
        named = λ i is. absurd (none_isnt i (sym image ∙ is));
        apart = λ n is. absurd (no_name n (sym image_name ∙ is));
        own = λ i is. absurd (none_isnt i (sym image ∙ is));
        idle = λ closed. (draft, draft_name);
      };
      map = λ m is. absurd (no_map m is);
      ahead = λ i is. absurd (none_isnt i (sym image ∙ is));
    }) ∣₁

-- nothing is held ahead any more
pub holds_none : (t : Told) (r : Noted) (o : Opened) (map : Option (List ℕ × ℕ)) (ahead ahead' : Ahead) (room : ℕ)
    → ahead' ≡ nothing_held room → ∥ (IsTrue t.tells → Holds t r o map ahead) ∥₁
    → ∥ (IsTrue t.tells → Holds t r o map ahead') ∥₁
holds_none t r o map ahead ahead' room empty was = ∥∥₁_map was (λ holds told.
    let h = holds told in
    record {
      start = h.start;
      stands = h.stands;
      image = h.image;
      map = h.map;
      ahead = λ i is.
          subst (λ (a : Ahead). IsHeld (bytes_at t i) a) (sym empty) (nothing_is_held (bytes_at t i) room);
    })
