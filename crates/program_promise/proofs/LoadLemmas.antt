-- The loads of files, whether the site tells or not: where it doesn't, one is made up.
use Rattle.std.proofs.Common.{◌≡◌, ℕ, ◌*◌, ◌<◌, ◌≤◌, Bool, true, false, IsTrue, List, [], ◌∷◌, ◌++◌, map, length, sum, replicate, Option, Some, None, refl, sym, ◌∙◌, inl, inr, append-nil, append_assoc, arith}
use Rattle.std.proofs.lemmas.Bool.{both_ways, cases_lt}
use Rattle.std.proofs.lemmas.List.Elements.{All-nil, All-replicate}
use Rattle.std.proofs.lemmas.List.Folds.{sum_by-replicate}
use Rattle.mapfile_text.specs.MapText.{text_limit}
use Rattle.crash_site.specs.declared.site.SiteCall.TheVariants.{MapRead as MapReadCall}
use Rattle.crash_site.specs.declared.site.MapRead.{MapRead}
use Rattle.crash_site.specs.declared.site.MapRead.TheVariants.{Bytes, Absent}
use Rattle.crash_site.specs.Files.{File}
use Rattle.crash_site.specs.Calls.{Call, Entry, Done as Returned}
use Rattle.crash_site.specs.CallsMade.{BrokeAt}
use Rattle.crash_site.specs.SiteState.{SiteState, files_in}
use Rattle.mapfile_save.specs.Saving.{IsNameIn}
use Rattle.mapfile_save.specs.Loading.{load_reads, IsReadSize, BeginsLoad, IsLoad}
use Rattle.mapfile_resume.specs.Resuming.{IsOfFile, LoadEnded, StarvedInLoad, BrokeInLoad}
use Rattle.program_promise.specs.Work.{Faults, WorkStep, Look, Read}
use Rattle.program_promise.specs.Parts.{StoppedIn, WentThrough}
use Rattle.program_promise.proofs.GainLemmas.{GainsBroken, broke_gains, broke_past}

-- ---- there is a load of each file

ones_sum : (n : ℕ) → sum (replicate n 1) ≡ n
ones_sum n = let e : sum (replicate n 1) ≡ n * 1 = sum_by-replicate (λ (x : ℕ). x) n 1 in omega (arith, e)

one_is_piece : IsReadSize 1
one_is_piece = (omega arith, omega arith)

-- the first reads of a file that gave this many bytes, one by one, and the read after them
begins_by_ones : (name : List ℕ) (f : File) (n : ℕ) (answer : Option MapRead) → n ≤ length f.bytes → n ≤ text_limit
    → BeginsLoad name (Some f) (load_reads name (replicate n 1) answer)
begins_by_ones name f n answer within limited =
    let e : sum (replicate n 1) ≡ n = ones_sum n in
    record {
      given = replicate n 1;
      answer = answer;
      pieces = All-replicate IsReadSize n 1 one_is_piece;
      within = omega (arith, e, within);
      limited = omega (arith, e, limited);
      calls_are = refl;
    }

-- a load of each file
abbrev pub Load : List ℕ → Option File → Type 0
Load name file = (load : List Call) × IsLoad name file load

load_of_none : (name : List ℕ) → Load name None
load_of_none name = (
  load_reads name [] (Some Absent),
  record {
    begins = record {
      given = [];
      answer = Some Absent;
      pieces = All-nil IsReadSize;
      within = omega arith;
      limited = omega arith;
      calls_are = refl;
    };
    ends = refl;
  },
)

load_of_short : (name : List ℕ) (f : File) (n : ℕ) → n ≡ length f.bytes → n ≤ text_limit → Load name (Some f)
unfolding begins_by_ones
load_of_short name f n is short = (
  load_reads name (replicate n 1) (Some (Bytes 0)),
  record {
    begins = begins_by_ones name f n (Some (Bytes 0)) (omega (arith, is)) short;
    ends = inl (refl, ones_sum n ∙ is);
  },
)

load_of_long : (name : List ℕ) (f : File) (n : ℕ) → n ≡ text_limit → n < length f.bytes → Load name (Some f)
unfolding begins_by_ones
load_of_long name f n is long =
    let e : sum (replicate n 1) ≡ n = ones_sum n in (
      load_reads name (replicate n 1) (Some (Bytes 1)),
      record {
        begins = begins_by_ones name f n (Some (Bytes 1)) (omega (arith, long)) (omega (arith, is));
        ends = inr (one_is_piece, omega (arith, e, is), omega (arith, e, long));
      },
    )

pub load_of : (name : List ℕ) (file : Option File) → Load name file
load_of name None = load_of_none name
load_of name (Some f) =
    elim (cases_lt text_limit (length f.bytes)) [
      | inl long ↦ load_of_long name f text_limit refl long
      | inr short ↦ load_of_short name f (length f.bytes) refl (omega (arith, short))
    ]

-- the first read of a file, without an answer
abbrev pub first_read : List ℕ → List Call
first_read name = load_reads name [] None

pub begins_first : (name : List ℕ) (file : Option File) → BeginsLoad name file (first_read name)
begins_first name file = record {
  given = [];
  answer = None;
  pieces = All-nil IsReadSize;
  within = omega arith;
  limited = omega arith;
  calls_are = refl;
}

-- ---- what a load did, after other calls

pub by_tells : (b : Bool) (X : Type 0) → (IsTrue b → X) → ((IsTrue b → ⊥) → X) → X
by_tells true X told untold = told refl
by_tells false X told untold = untold (λ t. both_ways false refl t)

-- it went on to its end
pub record Ended (before : List Call) (name : List ℕ) (P : Option File → Type 0) (old new : SiteState) : Type 0 where
  pub file : Option File
  pub holds : P file
  pub load : List Call
  pub is_load : IsLoad name file load
  pub is_own : IsTrue old.tells → file ≡ files_in old name
  pub gained : IsTrue old.tells → new.calls ≡ old.calls ++ map Returned (before ++ load)

pub ended : (before : List Call) (name : List ℕ) (P : Option File → Type 0) (old new : SiteState)
    → (IsTrue old.tells → P (files_in old name) × LoadEnded before name (files_in old name) old.calls new.calls)
    → IsOfFile (files_in old name) old.tells P → Ended before name P old new
ended before name P old new told of =
    by_tells old.tells (Ended before name P old new)
    (λ t.
    let l = told t in
    record {
      file = files_in old name;
      holds = l.0;
      load = l.1.0;
      is_load = l.1.1;
      is_own = λ s. refl;
      gained = λ s. l.1.2;
    })
    (λ n.
    let l = load_of name of.file in
    record {
      file = of.file;
      holds = of.holds;
      load = l.0;
      is_load = l.1;
      is_own = of.is_own;
      gained = λ s. absurd (n s);
    })

-- memory ran out for it
pub record RanOut (before : List Call) (name : List ℕ) (old new : SiteState) : Type 0 where
  pub file : Option File
  pub load : List Call
  pub begins : BeginsLoad name file load
  pub is_own : IsTrue old.tells → file ≡ files_in old name
  pub gained : IsTrue old.tells → new.calls ≡ old.calls ++ map Returned (before ++ load)

pub ran_out : (before : List Call) (name : List ℕ) (old new : SiteState)
    → (IsTrue old.tells → StarvedInLoad before name (files_in old name) old.calls new.calls) → RanOut before name old new
ran_out before name old new told =
    by_tells old.tells (RanOut before name old new)
    (λ t.
    let l = told t in
    record {
      file = files_in old name;
      load = l.0;
      begins = l.1;
      is_own = λ s. refl;
      gained = λ s. l.2;
    })
    (λ n. record {
      file = files_in old name;
      load = first_read name;
      begins = begins_first name (files_in old name);
      is_own = λ s. refl;
      gained = λ s. absurd (n s);
    })

-- a read of it failed
pub record BrokeOff (before : List Call) (name : List ℕ) (old new : SiteState) : Type 0 where
  pub file : Option File
  pub load : List Call
  pub begins : BeginsLoad name file load
  pub calls : List Entry
  pub broke : BrokeAt MapReadCall load [] calls
  pub is_own : IsTrue old.tells → file ≡ files_in old name
  pub gained : IsTrue old.tells → new.calls ≡ old.calls ++ (map Returned before ++ calls)

pub broke_off : (before : List Call) (name : List ℕ) (old new : SiteState) → (IsNameIn MapReadCall before → ⊥)
    → (IsTrue old.tells → BrokeInLoad before name (files_in old name) old.calls new.calls)
    → BrokeOff before name old new
broke_off before name old new other told =
    by_tells old.tells (BrokeOff before name old new)
    (λ t.
    let l = told t in
    let g : GainsBroken MapReadCall l.0 (old.calls ++ map Returned before) new.calls =
    broke_gains MapReadCall l.0 (old.calls ++ map Returned before) new.calls
    (broke_past MapReadCall before l.0 old.calls new.calls other l.2) in
    record {
      file = files_in old name;
      load = l.0;
      begins = l.1;
      calls = g.more;
      broke = g.broke;
      is_own = λ s. refl;
      gained = λ s. g.grew ∙ append_assoc old.calls (map Returned before) g.more;
    })
    (λ n. record {
      file = files_in old name;
      load = first_read name;
      begins = begins_first name (files_in old name);
      calls = [];
      broke = inl (refl, inr refl);
      is_own = λ s. refl;
      gained = λ s. absurd (n s);
    })

-- ---- rows that read a file and look at it

module _ {E : Type 0} (f : Faults E) (refuses : E → Type 0) (name : List ℕ) (file : Option File) where
  abbrev pub rows : List (WorkStep E)
  rows = Read (Some name) file ∷ Look refuses ∷ []

  pub read_through : (load : List Call) → IsLoad name file load → ((v : E) → refuses v → ⊥)
      → WentThrough rows (map Returned load)
  read_through load is pass = (load, [], is, sym (append-nil (map Returned load)), (pass, refl))

  pub read_refused : (e : E) (load : List Call) → IsLoad name file load → refuses e
      → StoppedIn f rows e (map Returned load)
  read_refused e load is refused =
      inr (inr (
        load,
        [],
        is,
        sym (append-nil (map Returned load)),
        inl (refused, record { opens = refl; gain = record { calls = refl; reads = refl; times = refl } }),
      ))

  pub read_broke : (load : List Call) (calls : List Entry) → BeginsLoad name file load
      → BrokeAt MapReadCall load [] calls → StoppedIn f rows (f.call MapReadCall) calls
  read_broke load calls begins broke =
      inl (load, refl, begins, broke, record { opens = refl; reads = refl; times = refl })

  pub read_starved : (load : List Call) → BeginsLoad name file load → StoppedIn f rows f.memory (map Returned load)
  read_starved load begins =
      inr (inl (load, refl, begins, refl, record { opens = refl; reads = refl; times = refl }))
