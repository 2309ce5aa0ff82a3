-- Reads of records: those that follow others, how many there are, and what one did.
use Rattle.std.proofs.Common.{◌≡◌, ℕ, ◌+◌, ◌<◌, ◌≤◌, IsTrue, true, false, ◌*◌, List, [], ◌∷◌, ◌++◌, length, All, Option, Some, None, is_some, Result, Ok, Err, refl, sym, ap, ◌∙◌, subst, arith, append_assoc, append-nil, length-append, take, slice_range}
use Rattle.std.proofs.lemmas.Bool.{and_from, eq-eqb}
use Rattle.std.proofs.lemmas.List.{length-take-le, map-append, take_all}
use Rattle.std.proofs.lemmas.List.Elements.{All-append, All-cons, All-nil}
use Rattle.faulty_source.specs.declared.source.Got.{Got}
use Rattle.faulty_source.specs.Got.{count_of, is_end}
use Rattle.faulty_source.specs.Journal.{Reading, IsFrom}
use Rattle.faulty_source.specs.SourceState.{SourceState}
use Rattle.faulty_source.specs.SourceChanges.{AnswersRead}
use Rattle.partition_domain.specs.declared.table.TableEntry.{TableEntry}
use Rattle.partition_domain.specs.declared.stop.SearchStop.{SearchStop}
use Rattle.partition_domain.specs.declared.stop.SearchStop.TheVariants.{Refused}
use Rattle.partition_domain.specs.declared.stop.Refusal.TheVariants.{Unread, NoSignature}
use Rattle.partition_domain.specs.Table.{table_entries, has_signature, is_whole_sector}
use Rattle.partition_domain.specs.Part.{next}
use Rattle.partition_domain.specs.Reads.{AreNext, IsLastRecord, IsSectorRead, StoppedBy, records_of}
use Rattle.partition_domain.specs.Steps.{Gained, SectorReadsAs, ReadsOne, ReadsTable, StopsAs, Lost, Short, Unsigned}
use Rattle.partition_domain.proofs.ChainLemmas.{next_short}

-- ---- reads that follow others

pub next_more : (k : ℕ) (before : List (List ℕ)) (xs ys : List Reading) → AreNext k before xs
    → AreNext k (before ++ records_of xs) ys → AreNext k before (xs ++ ys)
next_more k before [] ys first last = subst (λ (b : List (List ℕ)). AreNext k b ys) (append-nil before) last
next_more k before (x ∷ xs) ys first last = (
  first.0,
  next_more k (before ++ x.given ∷ []) xs ys first.1
      (subst (λ (b : List (List ℕ)). AreNext k b ys) (sym (append_assoc before (x.given ∷ []) (records_of xs))) last),
)

pub records_more : (xs ys : List Reading) → records_of (xs ++ ys) ≡ records_of xs ++ records_of ys
records_more xs ys = map-append (λ (r : Reading). r.given) xs ys

pub gained_none : (s t : SourceState) → (IsTrue s.tells → t.journal ≡ s.journal) → Gained [] s t
gained_none s t same = record {
  told = λ tells. same tells ∙ sym (append-nil s.journal);
  right = λ tells. All-nil (IsFrom s.bytes);
}

pub gained_more : (xs ys : List Reading) (a b c : SourceState) → b.tells ≡ a.tells
    → (IsTrue a.tells → b.bytes ≡ a.bytes) → Gained xs a b → Gained ys b c → Gained (xs ++ ys) a c
gained_more xs ys a b c tells bytes f g = record {
  told = λ t. g.told (subst IsTrue (sym tells) t) ∙ ap (λ (j : List Reading). j ++ ys) (f.told t)
      ∙ append_assoc a.journal xs ys;
  right = λ t. All-append (IsFrom a.bytes) xs ys (f.right t)
      (subst (λ (b : List ℕ). All (IsFrom b) ys) (bytes t) (g.right (subst IsTrue (sym tells) t)));
}

-- ---- how many there are

read_some : (o : Option ℕ) (r : Reading) → IsSectorRead o r → (s : ℕ) × (o ≡ Some s)
read_some None r is = absurd is
read_some (Some s) r is = (s, refl)

few_after : (k : ℕ) (before : List (List ℕ)) (reads : List Reading) → length before ≤ 129 → AreNext k before reads
    → length before + length reads ≤ 129
few_after k before [] short are = omega (arith, short)
few_after k before (r ∷ reads) short are =
    let some = read_some (next before k) r are.0 in
    let at : length before ≤ 128 = next_short before k some.0 some.1 in
    let longer : length (before ++ r.given ∷ []) ≡ length before + 1 = length-append before (r.given ∷ []) in
    let rest = few_after k (before ++ r.given ∷ []) reads (omega (arith, at, longer)) are.1 in
    omega (arith, longer, rest)

pub few_reads : (k : ℕ) (reads : List Reading) → AreNext k [] reads → length reads ≤ 129
few_reads k reads are = omega (arith, few_after k [] reads (omega arith) are)

-- ---- what a read of a record did

pub one_after : (before : List (List ℕ)) (sector : ℕ) (reads : List Reading) (last : List ℕ)
    → ReadsOne sector reads last → before ++ records_of reads ≡ before ++ last ∷ []
one_after before sector reads last one =
    ap (λ (rs : List Reading). before ++ records_of rs) one.are ∙ ap (λ (r : List ℕ). before ++ r ∷ []) one.gave

module _ (k : ℕ) (before : List (List ℕ)) (sector : ℕ) (is : next before k ≡ Some sector) where
  one_next : (reads : List Reading) (last : List ℕ) → ReadsOne sector reads last → AreNext k before reads
  one_next reads last one =
      subst (AreNext k before) (sym one.are) (subst (λ o. IsSectorRead o one.reading) (sym is) one.is_read, tt)

  stop_next : (reads : List Reading) (e : SearchStop) → StopsAs sector reads e → AreNext k before reads
  stop_next reads e (Lost answer none) = subst (AreNext k before) (sym none) tt
  stop_next reads e (Short last answer one few) = one_next reads last one
  stop_next reads e (Unsigned last answer one whole none) = one_next reads last one

  pub read_next : (reads : List Reading) (result : Result (List TableEntry) SearchStop) → SectorReadsAs sector reads result
      → AreNext k before reads
  read_next reads (Ok table) read = one_next reads read.0 read.1
  read_next reads (Err e) read = stop_next reads e read

  none_after : (reads : List Reading) → reads ≡ [] → next (before ++ records_of reads) k ≡ Some sector
  none_after reads none =
      ap (λ (rs : List Reading). next (before ++ records_of rs) k) none
      ∙ ap (λ (b : List (List ℕ)). next b k) (append-nil before) ∙ is

  -- why it stopped is an answer
  last_is : (reads : List Reading) (last : List ℕ) → ReadsOne sector reads last
      → IsLastRecord k (before ++ records_of reads) sector last
  last_is reads last one =
      record { before = before; are = one_after before sector reads last one; sector_is = is }

  pub stop_answers : (reads : List Reading) (e : SearchStop) → StopsAs sector reads e
      → StoppedBy e k (before ++ records_of reads)
  stop_answers reads e (Lost answer none) =
      subst (λ (x : SearchStop). StoppedBy x k (before ++ records_of reads)) (sym answer)
      (ap is_some (none_after reads none))
  stop_answers reads e (Short last answer one few) =
      subst (λ (x : SearchStop). StoppedBy x k (before ++ records_of reads)) (sym answer)
      (record { last = last; is_last = last_is reads last one; short = few })
  stop_answers reads e (Unsigned last answer one whole none) =
      subst (λ (x : SearchStop). StoppedBy x k (before ++ records_of reads)) (sym answer)
      (record { last = last; is_last = last_is reads last one; whole = whole; unsigned = none })

-- ---- one read

-- a read of a sector that left this in its buffer
abbrev pub sector_read : (sector : ℕ) → Got → (buf : List ℕ) → Reading
sector_read sector got buf =
    record { pos = sector * 512; asked = 512; given = take (count_of got) buf; ended = is_end got }

module _ {E : Type 0} (sector : ℕ) (got : Got) (buf : List ℕ) (old new : SourceState) (full : length buf ≡ 512)
    (few : count_of got ≤ 512)
    (a : AnswersRead {E = E} (sector * 512) 512 buf (Ok got) old new) where
  given_long : length (take (count_of got) buf) ≡ count_of got
  given_long = length-take-le (count_of got) buf (omega (arith, full, few))

  read_gained : Gained (sector_read sector got buf ∷ []) old new
  read_gained = record {
    told = λ tells. a.told tells;
    right = λ tells. All-cons (IsFrom old.bytes) (sector_read sector got buf) []
        (a.right tells ∙ ap (λ (n : ℕ). slice_range old.bytes (sector * 512) (sector * 512 + n)) (sym given_long))
        (All-nil (IsFrom old.bytes));
  }

  read_one : (last : List ℕ) → take (count_of got) buf ≡ last → ReadsOne sector (sector_read sector got buf ∷ []) last
  read_one last is = record { reading = sector_read sector got buf; are = refl; is_read = (refl, refl); gave = is }

  whole_is : 512 ≤ count_of got → take (count_of got) buf ≡ buf
  whole_is all = take_all (count_of got) buf (omega (arith, full, all))

  pub reads_unread : count_of got < 512 → ReadsTable sector (Err (Refused (Unread sector))) old new
  reads_unread short = record {
    reads = sector_read sector got buf ∷ [];
    gained = read_gained;
    as_ = Short (take (count_of got) buf) refl (read_one (take (count_of got) buf) refl)
        (omega (arith, given_long, short));
  }

  pub reads_unsigned : 512 ≤ count_of got → has_signature buf ≡ false
      → ReadsTable sector (Err (Refused (NoSignature sector))) old new
  reads_unsigned all unsigned = record {
    reads = sector_read sector got buf ∷ [];
    gained = read_gained;
    as_ = Unsigned buf refl (read_one buf (whole_is all)) (eq-eqb (length buf) 512 full) unsigned;
  }

  pub reads_record : (table : List TableEntry) → 512 ≤ count_of got → has_signature buf ≡ true → table ≡ table_entries buf
      → ReadsTable sector (Ok table) old new
  reads_record table all signed is = record {
    reads = sector_read sector got buf ∷ [];
    gained = read_gained;
    as_ = (
      buf,
      read_one buf (whole_is all),
      and_from (is_whole_sector buf) (has_signature buf) (eq-eqb (length buf) 512 full) signed,
      is,
    );
  }
