-- The reads of maps that options name, in front of a program's other calls.
use Rattle.std.proofs.Common.{◌≡◌, ℕ, ◌+◌, true, List, [], ◌∷◌, ◌++◌, map, sum, Option, Some, refl, sym, ap, ◌∙◌, inl, inr, subst, append_assoc, append-nil}
use Rattle.std.proofs.lemmas.List.{map-append}
use Rattle.std.proofs.lemmas.List.Elements.{All-nil, All-cons, All-head, All-tail}
use Rattle.crash_site.specs.declared.site.SiteCall.{SiteCall}
use Rattle.crash_site.specs.declared.site.MapRead.TheVariants.{Bytes}
use Rattle.crash_site.specs.Files.{File}
use Rattle.crash_site.specs.Calls.{Call, Entry, Done as Returned, Failed, map_read}
use Rattle.crash_site.specs.CallsMade.{Lost, BrokeAt}
use Rattle.crash_site.specs.Folder.{Folder, after, after_entry}
use Rattle.crash_site.proofs.LawLemmas.{after-append}
use Rattle.mapfile_save.specs.Loading.{piece_size, piece_reads, BeginsLoad}
use Rattle.rescue_rules.specs.Work.{is_map_read, AreMapReads}

abbrev pub IsMapRead : Call → Type 0
IsMapRead c = is_map_read c ≡ true

-- a load makes no other call
piece_reads_are : (name : List ℕ) (pos : ℕ) (given : List ℕ) (last : Call) → IsMapRead last
    → AreMapReads (piece_reads name pos given ++ last ∷ [])
piece_reads_are name pos [] last is = All-cons IsMapRead last [] is (All-nil IsMapRead)
piece_reads_are name pos (n ∷ given) last is =
    All-cons IsMapRead (map_read name pos piece_size (Some (Bytes n))) (piece_reads name (pos + n) given ++ last ∷ []) refl
    (piece_reads_are name (pos + n) given last is)

pub load_reads : (name : List ℕ) (file : Option File) (load : List Call) → BeginsLoad name file load → AreMapReads load
load_reads name file load begins =
    subst AreMapReads (sym begins.calls_are)
    (piece_reads_are name 0 begins.given (map_read name (sum begins.given) piece_size begins.answer) refl)

-- such reads change nothing of what files read as, returned or failed
record Stand (c : Call) (d : Folder) : Type 0 where
  returned : after_entry d (Returned c) ≡ d
  failed : (steps : ℕ) → after_entry d (Failed c steps) ≡ d

read_stands : (c : Call) (d : Folder) → IsMapRead c → Stand c d
read_stands (map_read name at size answer) d is = record { returned = refl; failed = λ steps. refl }
read_stands c d is = absurd (cc)

pub reads_stand : (calls : List Call) (d : Folder) → AreMapReads calls → after d (map Returned calls) ≡ d
reads_stand [] d reads = refl
reads_stand (c ∷ calls) d reads =
    ap (λ (f : Folder). after f (map Returned calls)) (read_stands c d (All-head IsMapRead c calls reads)).returned
    ∙ reads_stand calls d (All-tail IsMapRead c calls reads)

lost_stands : (c : Call) (start : Folder) (old new : List Entry) → IsMapRead c → Lost c old new → after start new ≡ after start old
lost_stands c start old new is (inl grew) =
    ap (after start) grew.1 ∙ after-append start old (Failed c grew.0 ∷ [])
    ∙ (read_stands c (after start old) is).failed grew.0
lost_stands c start old new is (inr same) = ap (after start) same

pub broken_stands : (at : SiteCall) (calls : List Call) (start : Folder) (old new : List Entry) → AreMapReads calls
    → BrokeAt at calls old new → after start new ≡ after start old
broken_stands at [] start old new reads broke = absurd broke
broken_stands at (c ∷ calls) start old new reads (inl lost) =
    lost_stands c start old new (All-head IsMapRead c calls reads) lost.1
broken_stands at (c ∷ calls) start old new reads (inr broke) =
    broken_stands at calls start (old ++ Returned c ∷ []) new (All-tail IsMapRead c calls reads) broke
    ∙ after-append start old (Returned c ∷ []) ∙ (read_stands c (after start old) (All-head IsMapRead c calls reads)).returned

-- calls that broke after others that returned
pub broke_in_both : (at : SiteCall) (front calls : List Call) (old new : List Entry) → BrokeAt at calls (old ++ map Returned front) new
    → BrokeAt at (front ++ calls) old new
broke_in_both at [] calls old new broke = subst (λ (r : List Entry). BrokeAt at calls r new) (append-nil old) broke
broke_in_both at (c ∷ front) calls old new broke =
    inr (broke_in_both at front calls (old ++ Returned c ∷ []) new
    (subst (λ (r : List Entry). BrokeAt at calls r new) (sym (append_assoc old (Returned c ∷ []) (map Returned front))) broke))

-- returned calls, one list after another
pub made_both : (front calls : List Call) (rest : List Entry)
    → map Returned front ++ (map Returned calls ++ rest) ≡ map Returned (front ++ calls) ++ rest
made_both front calls rest =
    sym (append_assoc (map Returned front) (map Returned calls) rest)
    ∙ ap (λ (r : List Entry). r ++ rest) (sym (map-append Returned front calls))
