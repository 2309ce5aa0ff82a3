-- What a file was read as, whether its site tells or not.
use Rattle.std.proofs.Common.{◌≡◌, ℕ, ◌+◌, ◌<◌, ◌≤◌, Bool, true, false, IsTrue, List, length, replicate, Option, Some, Ok, Err, refl, sym, inl, inr, subst, arith}
use Rattle.std.proofs.lemmas.List.{length-replicate}
use Rattle.mapfile_text.specs.declared.read.Mode.{Mode}
use Rattle.mapfile_reader.specs.declared.read.ReadMap.{ReadMap}
use Rattle.mapfile_text.specs.declared.read.MapError.{MapError}
use Rattle.mapfile_text.specs.declared.read.MapError.TheVariants.{TooLong}
use Rattle.mapfile_text.specs.Lines.{said_lines}
use Rattle.mapfile_text.specs.MapText.{text_limit, IsMapText, MapFault}
use Rattle.mapfile_text.proofs.MapLemmas.{lines_within}
use Rattle.crash_site.specs.Files.{File}
use Rattle.crash_site.specs.Calls.{Entry}
use Rattle.mapfile_resume.specs.declared.load.ResumeFault.{ResumeFault}
use Rattle.mapfile_resume.specs.declared.load.ResumeFault.TheVariants.{Site, Map as Refused, NoMemory}
use Rattle.mapfile_resume.specs.Resuming.{IsOfFile, ReadsAs, IsWithinLimits}
use Rattle.mapfile_resume.specs.Text.{IsTextOf, TextStop, NoMapIn}

-- the file that was read: the site's own, or one of that text
text_file : List ℕ → File
text_file text = record { bytes = text; regular = true }

untold : {A : Type 0} → IsTrue false → A
untold tells = absurd (cc)

pub map_read : (own : Option File) (tells : Bool) (mode : Mode) (text : List ℕ) (m : ReadMap) → (IsTrue tells → IsTextOf own text)
    → length text ≤ text_limit → IsMapText text mode m.state m.first m.listed m.tiles.statuses → IsOfFile own tells (ReadsAs mode (Ok (Some m)))
unfolding text_file
map_read own true mode text m of short reads =
    let t : IsTextOf own text = of refl in
    record {
      file = own;
      is_own = λ tells. refl;
      holds = record {
        there = t.there;
        is = t.is;
        within = subst (λ (bytes : List ℕ). length bytes ≤ text_limit) (sym t.bytes) short;
        reads = subst (λ (bytes : List ℕ). IsMapText bytes mode m.state m.first m.listed m.tiles.statuses) (sym t.bytes) reads;
      };
    }
map_read own false mode text m of short reads = record {
  file = Some (text_file text);
  is_own = untold;
  holds = record { there = text_file text; is = refl; within = short; reads = reads };
}

pub no_map_read : (own : Option File) (tells : Bool) (mode : Mode) (text : List ℕ) (e : ResumeFault) → (IsTrue tells → IsTextOf own text)
    → length text ≤ text_limit → NoMapIn text mode e → IsOfFile own tells (ReadsAs mode (Err e))
unfolding text_file
no_map_read own tells mode text (Site call) of short none = absurd none
no_map_read own tells mode text NoMemory of short none = record { file = own; is_own = λ told. refl; holds = tt }
no_map_read own true mode text (Refused error) of short none =
    let t : IsTextOf own text = of refl in
    record {
      file = own;
      is_own = λ tells. refl;
      holds = record {
        there = t.there;
        is = t.is;
        why = inr (
          subst (λ (bytes : List ℕ). length bytes ≤ text_limit) (sym t.bytes) short,
          subst (λ (bytes : List ℕ). MapFault bytes mode error) (sym t.bytes) none.0,
        );
      };
    }
no_map_read own false mode text (Refused error) of short none = record {
  file = Some (text_file text);
  is_own = untold;
  holds = record { there = text_file text; is = refl; why = inr (short, none.0) };
}

-- a text that is too long
too_long : (n : ℕ) → n ≡ text_limit → (f : File) × (text_limit < length f.bytes)
too_long n is =
    let none : ℕ = 0 in
    let size : length (replicate (n + 1) none) ≡ n + 1 = length-replicate (n + 1) none in
    (record { bytes = replicate (n + 1) none; regular = true }, longer size is)
  where
    longer : {m k l : ℕ} → m ≡ k + 1 → k ≡ l → l < m
    longer size same = omega (arith, size, same)

pub stopped_read : (own : Option File) (tells : Bool) (mode : Mode) (name : List ℕ) (e : ResumeFault) (calls calls' : List Entry)
    → (IsTrue tells → TextStop name own e calls calls') → ((error : MapError) → e ≡ Refused error → error ≡ TooLong)
    → IsOfFile own tells (ReadsAs mode (Err e))
stopped_read own tells mode name (Site call) calls calls' stop long = record { file = own; is_own = λ told. refl; holds = tt }
stopped_read own tells mode name NoMemory calls calls' stop long = record { file = own; is_own = λ told. refl; holds = tt }
stopped_read own true mode name (Refused error) calls calls' stop long =
    let t = (stop refl).1 in
    record {
      file = own;
      is_own = λ tells. refl;
      holds = record { there = t.there; is = t.is; why = inl (long error refl, t.long) };
    }
stopped_read own false mode name (Refused error) calls calls' stop long =
    let f = too_long text_limit refl in
    record {
      file = Some f.0;
      is_own = untold;
      holds = record { there = f.0; is = refl; why = inl (long error refl, f.1) };
    }

-- the state of a map that was read
pub within_limits : (text : List ℕ) (mode : Mode) (m : ReadMap) → IsMapText text mode m.state m.first m.listed m.tiles.statuses → IsWithinLimits m
within_limits text mode m is =
    let known = lines_within mode (said_lines text) m.state m.first m.listed m.tiles.statuses is.reads in
    record { pos = known.0; pass = known.1 }
