-- The bytes of a sample, its bad sectors, and what its journal says.
use Rattle.std.proofs.Common.{◌≡◌, ℕ, zero, suc, ◌+◌, ◌-◌, ◌*◌, ◌<◌, ◌≤◌, Bool, not, ◌||◌, cond, nat_eq, List, [], ◌∷◌, ◌++◌, length, length-append, map, take, drop, All, refl, sym, ap, ◌∙◌, subst, arith}
use Rattle.std.specs.Prelude.{slice_range, count_by}
use Rattle.std.specs.List.{range_with_len}
use Rattle.std.proofs.lemmas.List.{length-map}
use Rattle.std.proofs.lemmas.List.Sums.{sum_by-cons}
use Rattle.std.proofs.lemmas.List.FromFn.{length-map-range_with_len, map-range_with_len_more, take-map-range_with_len}
use Rattle.std.proofs.lemmas.List.Elements.{All-head, All-tail, All-nil, All-cons}
use Rattle.faulty_source.specs.declared.journal.ReadEntry.{ReadEntry}
use Rattle.faulty_source.specs.Journal.{Reading, is_failed}
use Rattle.faulty_source.specs.ReadEntries.{reading_of}
use Rattle.rescue_sample.specs.declared.source.Answered.{Answered}
use Rattle.rescue_sample.specs.Sample.{drawn, next_drawn, sector_meant, sample_byte, sample_bytes, sample_size, entry_failed, AreSampleReads, IsSampleAnswer, IsSampleRead}

-- the sectors that were drawn so far, and the last value
pub record AreDrawn (kib value : ℕ) (sectors : List ℕ) : Type 0 where
  pub value_is : value ≡ drawn kib (length sectors)
  pub sectors_are : sectors ≡ map (λ k. sector_meant kib (drawn kib k)) (range_with_len 1 (length sectors))

pub drawn_more : (kib value next sector : ℕ) (sectors more : List ℕ) → more ≡ sectors ++ sector ∷ []
    → sector ≡ sector_meant kib next → next ≡ next_drawn value → AreDrawn kib value sectors → AreDrawn kib next more
drawn_more kib value next sector sectors more grown meant follows are =
    let n : ℕ = length sectors in
    let f : ℕ → ℕ = λ k. sector_meant kib (drawn kib k) in
    let long : length more ≡ n + 1 = ap length grown ∙ length-append sectors (sector ∷ []) in
    let longer : length more ≡ suc n = long ∙ (let e : n + 1 ≡ suc n = omega arith in e) in
    let value_is : next ≡ drawn kib (suc n) = follows ∙ ap next_drawn are.value_is in
    let last : sector ≡ f (suc n) = meant ∙ ap (sector_meant kib) value_is in
    let at : 1 + n ≡ suc n = omega arith in
    record {
      value_is = value_is ∙ ap (drawn kib) (sym longer);
      sectors_are = grown ∙ ap (λ (xs : List ℕ). xs ++ sector ∷ []) are.sectors_are
          ∙ ap (λ (x : ℕ). map f (range_with_len 1 n) ++ x ∷ []) last ∙ sym (map-range_with_len_more f 1 n (suc n) at)
          ∙ ap (λ (m : ℕ). map f (range_with_len 1 m)) (sym long);
    }

-- what lies after the first numbers of a range
drop_range : (f : ℕ → ℕ) (k a n : ℕ) → drop k (map f (range_with_len a n)) ≡ map f (range_with_len (a + k) (n - k))
drop_range f zero a n =
    let here : a ≡ a + 0 = omega arith in
    let all : n ≡ n - 0 = omega arith in
    ap (λ (b : ℕ). map f (range_with_len b n)) here ∙ ap (λ (m : ℕ). map f (range_with_len (a + 0) m)) all
drop_range f (suc k) a zero =
    let none : 0 ≡ 0 - suc k = omega arith in ap (λ (m : ℕ). map f (range_with_len (a + suc k) m)) none
drop_range f (suc k) a (suc n) =
    let less : n - k ≡ suc n - suc k = omega arith in
    let on : a + 1 + k ≡ a + suc k = omega arith in
    drop_range f k (a + 1) n ∙ ap (λ (b : ℕ). map f (range_with_len b (n - k))) on
    ∙ ap (λ (m : ℕ). map f (range_with_len (a + suc k) m)) less

-- so many bytes of a sample from a position on, which are there, or none
enough : (kib pos count : ℕ) → (0 < count → pos + count ≤ sample_size kib) → count ≤ sample_size kib - pos
enough kib pos zero there = omega arith
enough kib pos (suc n) there = let within : pos + suc n ≤ sample_size kib = there (omega arith) in omega (arith, within)

-- the bytes from a position on
bytes_from : (kib pos : ℕ) → drop pos (sample_bytes kib) ≡ map sample_byte (range_with_len pos (sample_size kib - pos))
bytes_from kib pos =
    let here : 0 + pos ≡ pos = omega arith in
    drop_range sample_byte pos 0 (sample_size kib)
    ∙ ap (λ (b : ℕ). map sample_byte (range_with_len b (sample_size kib - pos))) here

pub bytes_at : (kib pos count : ℕ) → (0 < count → pos + count ≤ sample_size kib)
    → map sample_byte (range_with_len pos count) ≡ slice_range (sample_bytes kib) pos (pos + count)
bytes_at kib pos count there =
    let few : pos + count - pos ≡ count = omega arith in
    sym (take-map-range_with_len sample_byte pos (sample_size kib - pos) count (enough kib pos count there))
    ∙ ap (λ (bytes : List ℕ). take count bytes) (sym (bytes_from kib pos))
    ∙ ap (λ (n : ℕ). take n (drop pos (sample_bytes kib))) (sym few)

pub size_of : (kib : ℕ) → length (sample_bytes kib) ≡ kib * 1024
size_of kib = length-map-range_with_len sample_byte 0 (sample_size kib)

-- samples of the same bytes are of one size
pub same_size : (kib kib' : ℕ) → sample_bytes kib ≡ sample_bytes kib' → kib ≡ kib'
same_size kib kib' same =
    let long : kib * 1024 ≡ kib' * 1024 = sym (size_of kib) ∙ ap length same ∙ size_of kib' in omega (arith, long)

-- what an entry of the list of reads says
abbrev pub EntryAnswers : (kib : ℕ) → ReadEntry → Type 0
EntryAnswers kib e = IsSampleAnswer kib e.pos e.asked e.given e.ended

-- as many bytes are given as the entry says
given_length : (kib : ℕ) (e : ReadEntry) → EntryAnswers kib e
    → length (slice_range (sample_bytes kib) e.pos (e.pos + e.given)) ≡ e.given
given_length kib e is =
    sym (ap length (bytes_at kib e.pos e.given is.there)) ∙ length-map-range_with_len sample_byte e.pos e.given

read_of_entry : (kib : ℕ) (e : ReadEntry) → EntryAnswers kib e → IsSampleRead kib (reading_of (sample_bytes kib) e)
read_of_entry kib e is =
    let long = given_length kib e is in
    record {
      from = ap (λ (n : ℕ). slice_range (sample_bytes kib) e.pos (e.pos + n)) (sym long);
      answer = subst (λ (n : ℕ). IsSampleAnswer kib e.pos e.asked n e.ended) (sym long) is;
    }

pub journal_reads : (kib : ℕ) (entries : List ReadEntry) → All (EntryAnswers kib) entries
    → All (IsSampleRead kib) (map (reading_of (sample_bytes kib)) entries)
journal_reads kib [] are = All-nil (IsSampleRead kib)
journal_reads kib (e ∷ es) are =
    All-cons (IsSampleRead kib) (reading_of (sample_bytes kib) e) (map (reading_of (sample_bytes kib)) es)
    (read_of_entry kib e (All-head (EntryAnswers kib) e es are))
    (journal_reads kib es (All-tail (EntryAnswers kib) e es are))

failed_alike : (kib : ℕ) (e : ReadEntry) → EntryAnswers kib e
    → is_failed (reading_of (sample_bytes kib) e) ≡ entry_failed e
failed_alike kib e is = ap (λ (n : ℕ). not (nat_eq n e.asked || e.ended)) (given_length kib e is)

pub journal_failed : (kib : ℕ) (entries : List ReadEntry) → All (EntryAnswers kib) entries
    → count_by entry_failed entries ≡ count_by is_failed (map (reading_of (sample_bytes kib)) entries)
journal_failed kib [] are = refl
journal_failed kib (e ∷ es) are =
    let first = failed_alike kib e (All-head (EntryAnswers kib) e es are) in
    let rest = journal_failed kib es (All-tail (EntryAnswers kib) e es are) in
    let read : Reading = reading_of (sample_bytes kib) e in
    let reads : List Reading = map (reading_of (sample_bytes kib)) es in
    sum_by-cons (λ (x : ReadEntry). cond (entry_failed x) 1 0) e es
    ∙ ap (λ (b : Bool). cond b 1 0 + count_by entry_failed es) (sym first)
    ∙ ap (λ (n : ℕ). cond (is_failed read) 1 0 + n) rest
    ∙ sym (sum_by-cons (λ (x : Reading). cond (is_failed x) 1 0) read reads)

-- the counts of a journal, by its list of reads
pub counted : (own kib : ℕ) (entries : List ReadEntry) (counts : Answered) → sample_bytes own ≡ sample_bytes kib
    → All (EntryAnswers own) entries → counts.reads ≡ length entries → counts.failed ≡ count_by entry_failed entries
    → AreSampleReads kib (map (reading_of (sample_bytes own)) entries) counts
counted own kib entries counts same are reads failed =
    let journal : List Reading = map (reading_of (sample_bytes own)) entries in
    let counts_are : AreSampleReads own journal counts = record {
      each = journal_reads own entries are;
      reads = reads ∙ sym (length-map entries (reading_of (sample_bytes own)));
      failed = failed ∙ journal_failed own entries are;
    } in
    subst (λ (k : ℕ). AreSampleReads k journal counts) (same_size own kib same) counts_are
