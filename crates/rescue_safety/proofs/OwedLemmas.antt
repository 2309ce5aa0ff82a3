-- What is owed among files that may be found.
use Rattle.std.proofs.Common.{◌≡◌, ◌≢◌, ◌⊎◌, inl, inr, ⊎_elim, ℕ, ◌+◌, Bool, true, List, [], length, Option, sym, ap, subst, ◌∙◌, arith}
use Rattle.crash_site.specs.Files.{File, bytes_of, draft_of}
use Rattle.crash_site.specs.Calls.{Entry}
use Rattle.crash_site.specs.Folder.{Folder}
use Rattle.crash_site.specs.Left.{MayBeLeft}
use Rattle.crash_site.proofs.DiskLemmas.{reads_rest}
use Rattle.crash_site.proofs.LawLemmas.{others_stand}
use Rattle.mapfile_save.proofs.NameLemmas.{apart_draft}
use Rattle.rescue_rules.specs.Stops.{Before, files_before, CouldBefore, LeftBy}
use Rattle.rescue_rules.proofs.BeforeLemmas.{left_before}
use Rattle.rescue_safety.specs.Saves.{CallsFinished}
use Rattle.rescue_safety.specs.Safe.{Target}
use Rattle.rescue_safety.specs.Owed.{last_given, HoldsLast}
use Rattle.rescue_safety.specs.OwedFiles.{IsOwedIn, IsOwedAt}
use Rattle.rescue_safety.specs.Runs.{resting, NextBegins, Stopped, Ended}
use Rattle.rescue_safety.proofs.PartLemmas.{ended_left}

-- ---- one target for another one

-- with the same files and places
pub record IsSame (t u : Target) : Type 0 where
  pub outfile : t.outfile ≡ u.outfile
  pub mapfile : t.mapfile ≡ u.mapfile
  pub places : t.from + u.to ≡ u.from + t.to

pub same_back : (t u : Target) → IsSame t u → IsSame u t
same_back t u same = record {
  outfile = sym same.outfile;
  mapfile = sym same.mapfile;
  places = sym same.places;
}

module _ (t u : Target) (same : IsSame t u) (gave : List (ℕ × ℕ)) (old : ℕ → Bool) where
  pub same_holds : (image : List ℕ) (x : ℕ) → HoldsLast t (last_given gave) image x
      → HoldsLast u (last_given gave) image x
  same_holds image x h = record {
    byte = h.byte;
    given = h.given;
    place = h.place;
    at = omega (arith, h.at, same.places);
    holds = h.holds;
  }

  pub same_in : (files : List ℕ → Option File) → IsOwedIn t gave old files → IsOwedIn u gave old files
  same_in files owed = record {
    each = λ x fin. ⊎_elim (λ (is : old x ≡ true). inl is)
        (λ (h : HoldsLast t (last_given gave) (bytes_of (files t.outfile)) x).
        inr (same_holds (bytes_of (files u.outfile)) x
        (subst (λ (n : List ℕ). HoldsLast t (last_given gave) (bytes_of (files n)) x) same.outfile h)))
        (owed.each x (subst (λ (n : List ℕ). CallsFinished (files n) x) (sym same.mapfile) fin));
  }

  pub same_at : (b : Before) → IsOwedAt t gave old b → IsOwedAt u gave old b
  same_at b owed = record { each = λ files left. same_in files (owed.each files left) }

-- ---- some files for others

-- files with the same mapfile, and the same bytes in the output
pub owed_alike : (t : Target) (gave : List (ℕ × ℕ)) (old : ℕ → Bool) (files files' : List ℕ → Option File)
    → files' t.mapfile ≡ files t.mapfile → bytes_of (files' t.outfile) ≡ bytes_of (files t.outfile)
    → IsOwedIn t gave old files → IsOwedIn t gave old files'
owed_alike t gave old files files' same_map same_bytes owed = record {
  each = λ x fin. subst (λ (image : List ℕ). (old x ≡ true) ⊎ HoldsLast t (last_given gave) image x) (sym same_bytes)
      (owed.each x (subst (λ (f : Option File). CallsFinished f x) same_map fin));
}

-- what rests is found as it is
pub owed_resting : (t : Target) (gave : List (ℕ × ℕ)) (old : ℕ → Bool) (files : List ℕ → Option File)
    → IsOwedIn t gave old files → IsOwedAt t gave old (resting files)
owed_resting t gave old files owed = record {
  each = λ found left.
      let start : Folder = (resting files).start in
      owed_alike t gave old files found (others_stand start [] t.mapfile 0 found tt left)
      (ap bytes_of (others_stand start [] t.outfile 0 found tt left)) owed;
}

-- the files as they read may be found
pub reads_left : (b : Before) → MayBeLeft b.start b.earlier (length b.earlier) (files_before b)
reads_left b = left_before b (files_before b) (reads_rest b.start b.earlier)

-- what was found before a run's barrier could be found before it
pub owed_before : (t : Target) (b : Before) (gave : List (ℕ × ℕ)) (old : ℕ → Bool) (files : List ℕ → Option File)
    → t.outfile ≢ t.mapfile → IsOwedAt t gave old b → CouldBefore b t.outfile (draft_of t.mapfile) files
    → IsOwedIn t gave old files
owed_before t b gave old files apart owed could =
    owed_alike t gave old could.before files (could.others t.mapfile (λ is. apart (sym is)) (apart_draft t.mapfile))
    (⊎_elim
    (λ (same : files t.outfile ≡ could.before t.outfile). ap bytes_of same)
    (λ made. ap bytes_of made.1 ∙ sym (ap bytes_of made.0)) could.output)
    (owed.each could.before could.left)

-- what is owed at each stop of a run is owed where the next one begins
pub next_owed : (t : Target) (gave : List (ℕ × ℕ)) (old : ℕ → Bool) (from : Before) (calls : List Entry) (k : ℕ)
    (next : Before) → ((files : List ℕ → Option File) → LeftBy from calls k files → IsOwedIn t gave old files)
    → NextBegins t.outfile from calls k next → IsOwedAt t gave old next
next_owed t gave old from calls k next owed (Stopped files left is) =
    subst (λ (n : Before). IsOwedAt t gave old n) (sym is) (owed_resting t gave old files (owed files left))
next_owed t gave old from calls k next owed (Ended part silent p quiet is) =
    subst (λ (n : Before). IsOwedAt t gave old n) (sym is)
    (record { each = λ files left. owed files (ended_left from t.outfile calls k part silent files p quiet left) })
