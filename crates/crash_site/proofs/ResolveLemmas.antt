-- What a stop leaves of an image that lost ranges.
use Rattle.std.proofs.Common.{◌≡◌, ◌⊎◌, inl, inr, ⊎_elim, ℕ, zero, suc, ◌+◌, ◌-◌, ◌≤◌, ◌<◌, max, min, get_or, take, drop, replicate, true, false, List, [], ◌∷◌, ◌++◌, length, length-append, Option, Some, None, refl, sym, ◌∙◌, ap, subst, arith}
use Rattle.std.specs.List.{flat_map}
use Rattle.std.proofs.lemmas.Bool.{cases_lt}
use Rattle.std.proofs.lemmas.List.{length-replicate, length-take, get_or_append_left, get_or-take, get_or-replicate, get_or-append_right}
use Rattle.crash_site.specs.Files.{File, written, written_file}
use Rattle.crash_site.specs.Left.{IsLoose, loose_end, Matches, MayShow}
use Rattle.crash_site.proofs.RangeLemmas.{loose_within, loose_or_not, without_in, without_out, without_rest, without_end}
use Rattle.crash_site.proofs.Written.{length-written, written_before, written_inside, written_after}
use Rattle.crash_site.specs.Disk.{Showing, lose, lose_all, in_each, without, loosened, synced}
use Rattle.crash_site.proofs.Touches.{one_version, Touch, Wrote, Synced, Unwrote, Unsynced, Image, touched, touched_by, AreOfRun, after_sync}
use Rattle.std.proofs.lemmas.Grind.{common_steps}

-- a place outside of one range lies before it or after it
pub apart : (x pos len : ℕ) → (IsLoose ((pos, len) ∷ []) x → ⊥) → (x < pos) ⊎ (pos + len ≤ x)
apart x pos len off = elim (cases_lt x pos) [
  | inl low ↦ inl low
  | inr le ↦ inr (elim (cases_lt x (pos + len)) [ inl lt ↦ absurd (off (inl (le, lt))) | inr high ↦ high ])
]

-- ---- bytes

-- the byte of a list, zero past its end
abbrev pub by : List ℕ → ℕ → ℕ
by bytes x = get_or bytes x 0

past_end : (bytes : List ℕ) (x : ℕ) → length bytes ≤ x → by bytes x ≡ 0
past_end bytes x le = grind (arith, common_steps)

-- a gap before a write is filled with zeros
gap_zero : (bytes : List ℕ) (pos : ℕ) (piece : List ℕ) (x : ℕ) → x < pos → length bytes ≤ x
    → by (written bytes pos piece) x ≡ 0
gap_zero bytes pos piece x low gap =
    let grown : List ℕ = bytes ++ replicate (pos - length bytes) 0 in
    let long : length grown ≡ pos =
    omega (
      arith,
      length-append bytes (replicate (pos - length bytes) 0),
      length-replicate {A = ℕ}
          (pos - length bytes) 0,
    ) in
    let size : length (take pos grown) ≡ pos = omega (arith, length-take pos grown, long) in
    get_or_append_left (take pos grown ++ piece) (drop (pos + length piece) bytes) 0 x
    (omega (arith, low, size, length-append (take pos grown) piece))
    ∙ get_or_append_left (take pos grown) piece 0 x (omega (arith, low, size))
    ∙ get_or-take pos grown x 0 low
    ∙ get_or-append_right bytes (replicate (pos - length bytes) 0) (length bytes) x 0 refl gap
    ∙ get_or-replicate (pos - length bytes) (x - length bytes) 0 0 (omega (arith, low, gap))

-- outside of a write's range a byte stands; a gap is filled with zeros
pub written_out : (bytes : List ℕ) (pos : ℕ) (piece : List ℕ) (x : ℕ) → (x < pos) ⊎ (pos + length piece ≤ x)
    → by (written bytes pos piece) x ≡ by bytes x
written_out bytes pos piece x (inl low) = elim (cases_lt x (length bytes)) [
  | inl has ↦ written_before bytes pos piece x low has
  | inr gap ↦ gap_zero bytes pos piece x low gap ∙ sym (past_end bytes x gap)
]
written_out bytes pos piece x (inr high) = written_after bytes pos piece x high

-- bytes by place
abbrev pub made : (n : ℕ) → (ℕ → ℕ) → List ℕ
made zero f = []
made (suc n) f = f 0 ∷ made n (λ x. f (suc x))

length-made : (n : ℕ) (f : ℕ → ℕ) → length (made n f) ≡ n
length-made zero f = refl
length-made (suc n) f = let e = length-made n (λ x. f (suc x)) in omega (arith, e)

by-made : (n : ℕ) (f : ℕ → ℕ) (x : ℕ) → x < n → by (made n f) x ≡ f x
by-made zero f x lt = absurd (omega (arith, lt))
by-made (suc n) f zero lt = refl
by-made (suc n) f (suc x) lt = by-made n (λ y. f (suc y)) x (omega (arith, lt))

-- ---- two images, one of which lost ranges

abbrev pub one : File → (loose lost : List (ℕ × ℕ)) → Showing
one file loose lost = one_version (record { file = Some file; loose = loose; lost = lost })

pub one_matches : (file : File) (loose lost : List (ℕ × ℕ)) (g : File) → MayShow (one file loose lost) (Some g)
    → Matches file loose g
one_matches file loose lost g (inl d) = absurd (cc)
one_matches file loose lost g (inr (inl w)) = absurd (let apart : false ≡ true = w.0 in cc)
one_matches file loose lost g (inr (inr (inl h))) = h
one_matches file loose lost g (inr (inr (inr apart))) = absurd apart

pub one_none : (file : File) (loose lost : List (ℕ × ℕ)) → MayShow (one file loose lost) None → ⊥
one_none file loose lost (inl d) = absurd (cc)
one_none file loose lost (inr (inl w)) = absurd (let apart : false ≡ true = w.0 in cc)
one_none file loose lost (inr (inr (inl h))) = absurd h
one_none file loose lost (inr (inr (inr apart))) = absurd apart

-- what is found in the end, the size of the file at first, and the end of what it lost
module _ (g : List ℕ) (f m : ℕ) where
  abbrev n : ℕ
  n = max f (min (length g) m)

  -- a file, and one that has what is found in its place wherever the first lost it
  pub record Pair (lost loose : List (ℕ × ℕ)) (a a' : File) : Type 0 where
    pub regular : a'.regular ≡ a.regular
    pub size : length a'.bytes ≡ max (length a.bytes) n
    pub long : f ≤ length a.bytes
    pub ends : loose_end lost ≤ max m (loose_end loose)
    pub each : (x : ℕ) → (IsLoose loose x → ⊥) → x < length a'.bytes
        → ((IsLoose lost x → ⊥) × (x < length a.bytes) × (by a'.bytes x ≡ by a.bytes x)) ⊎ (by a'.bytes x ≡ by g x)

  -- both are written
  pair_written : (lost : List (ℕ × ℕ)) (a a' : File) (pos : ℕ) (piece : List ℕ) → Pair lost [] a a'
      → Pair (flat_map (without pos (length piece)) lost) [] (written_file (Some a) pos piece)
      (written_file (Some a') pos piece)
  pair_written lost a a' pos piece h = record {
    regular = h.regular;
    size = omega (arith, h.size, length-written a.bytes pos piece, length-written a'.bytes pos piece);
    long = omega (arith, h.long, length-written a.bytes pos piece);
    ends = omega (arith, h.ends, without_end pos (length piece) lost);
    each = λ x free lt. elim (cases_lt x pos) [
      | inl low ↦ out x lt (inl low) (λ gap. low)
      | inr le ↦ elim (cases_lt x (pos + length piece)) [
        | inl here ↦ inl (
          (λ l. ⊎_elim (λ (o : x < pos). omega (arith, le, o)) (λ (o : pos + length piece ≤ x). omega (arith, here, o))
              (without_out pos (length piece) lost x l)),
          omega (arith, here, length-written a.bytes pos piece),
          written_inside a'.bytes pos piece x le here ∙ sym (written_inside a.bytes pos piece x le here),
        )
        | inr high ↦ out x lt (inr high) (λ gap. omega (arith, lt, gap, high, length-written a'.bytes pos piece))
      ]
    ];
  }
    where
      now : (x : ℕ) → (x < pos) ⊎ (pos + length piece ≤ x)
          → ((IsLoose lost x → ⊥) × (x < length a.bytes) × (by a'.bytes x ≡ by a.bytes x)) ⊎ (by a'.bytes x ≡ by g x)
          → ((IsLoose (flat_map (without pos (length piece)) lost) x → ⊥) × (x < length (written a.bytes pos piece))
          × (by (written a'.bytes pos piece) x ≡ by (written a.bytes pos piece) x))
          ⊎ (by (written a'.bytes pos piece) x ≡ by g x)
      now x o (inl s) = inl (
        (λ l. s.0 (without_in pos (length piece) lost x l)),
        omega (arith, s.1, length-written a.bytes pos piece),
        written_out a'.bytes pos piece x o ∙ s.2 ∙ sym (written_out a.bytes pos piece x o),
      )
      now x o (inr e) = inr (written_out a'.bytes pos piece x o ∙ e)

      out : (x : ℕ) → x < length (written a'.bytes pos piece) → (x < pos) ⊎ (pos + length piece ≤ x)
          → (length a'.bytes ≤ x → x < pos)
          → ((IsLoose (flat_map (without pos (length piece)) lost) x → ⊥) × (x < length (written a.bytes pos piece))
          × (by (written a'.bytes pos piece) x ≡ by (written a.bytes pos piece) x))
          ⊎ (by (written a'.bytes pos piece) x ≡ by g x)
      out x lt o before = elim (cases_lt x (length a'.bytes)) [
        | inl has ↦ now x o (h.each x (λ no. no) has)
        | inr gap ↦ elim (loose_or_not lost x) [
          | inl l ↦ inr (gap_zero a'.bytes pos piece x (before gap) gap
              ∙ sym (past_end g x (omega (arith, gap, h.size, h.ends, loose_within lost x l))))
          | inr off ↦ inl (
            (λ l. off (without_in pos (length piece) lost x l)),
            omega (arith, before gap, length-written a.bytes pos piece),
            gap_zero a'.bytes pos piece x (before gap) gap
                ∙ sym (gap_zero a.bytes pos piece x (before gap) (omega (arith, gap, h.size))),
          )
        ]
      ]

  -- a range of both is loose
  pair_loosened : (lost loose : List (ℕ × ℕ)) (a a' : File) (pos len : ℕ) → Pair lost loose a a'
      → Pair (flat_map (without pos len) lost) ((pos, len) ∷ loose) a a'
  pair_loosened lost loose a a' pos len h = record {
    regular = h.regular;
    size = h.size;
    long = h.long;
    ends = omega (arith, h.ends, without_end pos len lost);
    each = λ x free lt.
        ⊎_elim (λ s. inl ((λ l. s.0 (without_in pos len lost x l)), s.1, s.2)) (λ e. inr e)
        (h.each x (λ l. free (inr l)) lt);
  }

  -- a range of one that is loose is lost
  pair_losing : (lost loose : List (ℕ × ℕ)) (a a' : File) (pos len : ℕ) → Pair lost ((pos, len) ∷ loose) a a'
      → Pair ((pos, len) ∷ lost) ((pos, len) ∷ loose) a a'
  pair_losing lost loose a a' pos len h = record {
    regular = h.regular;
    size = h.size;
    long = h.long;
    ends = omega (arith, h.ends);
    each = λ x free lt.
        ⊎_elim (λ s. inl ((λ l. ⊎_elim (λ here. free (inl here)) (λ in_. s.0 in_) l), s.1, s.2)) (λ e. inr e)
        (h.each x free lt);
  }

  -- all of one that is loose is lost
  pair_all : (all lost loose : List (ℕ × ℕ)) (a a' : File)
      → ((x : ℕ) → IsLoose all x → IsLoose lost x ⊎ IsLoose loose x) → loose_end all ≤ max m (loose_end loose)
      → Pair lost loose a a' → Pair all loose a a'
  pair_all all lost loose a a' of le h = record {
    regular = h.regular;
    size = h.size;
    long = h.long;
    ends = le;
    each = λ x free lt.
        ⊎_elim (λ s. inl ((λ l. ⊎_elim s.0 free (of x l)), s.1, s.2)) (λ e. inr e) (h.each x free lt);
  }

  -- what is found of the one may be found of the other
  pair_found : (all lost loose loose' : List (ℕ × ℕ)) (a a' found : File) → found.bytes ≡ g → Pair lost loose a a'
      → ((x : ℕ) → IsLoose all x → IsLoose lost x ⊎ IsLoose loose x) → loose_end all ≤ max m (loose_end loose)
      → ((x : ℕ) → IsLoose loose x → IsLoose loose' x) → loose_end loose ≤ loose_end loose'
      → Matches a all found → Matches a' loose' found
  pair_found all lost loose loose' a a' found is h of le wide wide_end was =
      let size : length found.bytes ≡ length g = ap length is in
      record {
        stands = λ x lt. elim (loose_or_not loose x) [
          | inl l ↦ inl (wide x l)
          | inr free ↦ elim (h.each x free lt) [
            | inl s ↦ ⊎_elim (λ l. absurd (⊎_elim s.0 free (of x l))) (λ e. inr (e ∙ sym s.2)) (was.stands x s.1)
            | inr e ↦ inr (ap (λ (l : List ℕ). by l x) is ∙ sym e)
          ]
        ];
        no_shorter = omega (arith, h.size, h.long, was.no_shorter, size);
        no_longer = omega (arith, h.size, h.long, le, wide_end, was.no_longer, size);
        regular = was.regular ∙ sym h.regular;
      }

  -- Two images that were touched alike: `all` is loose of the one, of which `wrote` was written since the last sync, and
  -- is loose of the other.
  record Alike (i i' : Image) : Type 0 where
    pub file : File
    pub file' : File
    pub all : List (ℕ × ℕ)
    pub wrote : List (ℕ × ℕ)
    pub lost : List (ℕ × ℕ)
    pub lost' : List (ℕ × ℕ)
    pub shows : i.shows ≡ one file all lost
    pub shows' : i'.shows ≡ one file' wrote lost'
    pub durable : Pair lost wrote file file'
    pub of : (x : ℕ) → IsLoose all x → IsLoose lost x ⊎ IsLoose wrote x
    pub end : loose_end all ≤ max m (loose_end wrote)

  -- before a call that fails
  record Sound (i i' : Image) : Type 0 where
    pub alike : Alike i i'
    pub none : alike.lost' ≡ []
    pub reads : Pair alike.lost [] i.reads i'.reads

  abbrev wrote_alike : (i i' : Image) (pos : ℕ) (piece : List ℕ) (h : Alike i i')
      → Alike (touched i (Wrote pos piece)) (touched i' (Wrote pos piece))
  wrote_alike i i' pos piece h = record {
    file = h.file;
    file' = h.file';
    all = (pos, length piece) ∷ h.all;
    wrote = (pos, length piece) ∷ h.wrote;
    lost = flat_map (without pos (length piece)) h.lost;
    lost' = flat_map (without pos (length piece)) h.lost';
    shows = ap (loosened pos (length piece)) h.shows;
    shows' = ap (loosened pos (length piece)) h.shows';
    durable = pair_loosened h.lost h.wrote h.file h.file' pos (length piece) h.durable;
    of = λ x l. elim (loose_or_not ((pos, length piece) ∷ []) x) [
      | inl here ↦ inr (inl (⊎_elim (λ r. r) (λ off. absurd off) here))
      | inr off ↦ ⊎_elim (λ here. inr (inl here))
          (λ there. ⊎_elim (λ a. inl (without_rest pos (length piece) h.lost x a (apart x pos (length piece) off)))
          (λ b. inr (inr b)) (h.of x there)) l
    ];
    end = omega (arith, h.end);
  }

  end_found : (i i' : Image) (found : File) → found.bytes ≡ g → Alike i i' → MayShow i.shows (Some found)
      → MayShow i'.shows (Some found)
  end_found i i' found is h may =
      subst (λ (s : Showing). MayShow s (Some found)) (sym h.shows')
      (inr (inr (inl (pair_found h.all h.lost h.wrote h.wrote h.file h.file' found is h.durable h.of h.end
      (λ x l. l) (omega arith)
      (one_matches h.file h.all h.lost found (subst (λ (s : Showing). MayShow s (Some found)) h.shows may))))))

  touched_sound : (i i' : Image) (ts : List Touch) (found : File) → found.bytes ≡ g → AreOfRun ts → Sound i i'
      → MayShow (touched_by i ts).shows (Some found) → MayShow (touched_by i' ts).shows (Some found)
  touched_sound i i' [] found is run h may = end_found i i' found is h.alike may
  touched_sound i i' (Wrote pos piece ∷ ts) found is run h may =
      touched_sound (touched i (Wrote pos piece)) (touched i' (Wrote pos piece)) ts found is run
      (record {
        alike = wrote_alike i i' pos piece h.alike;
        none = ap (flat_map (without pos (length piece))) h.none;
        reads = pair_written h.alike.lost i.reads i'.reads pos piece h.reads;
      })
      may
  touched_sound i i' (Synced ∷ ts) found is run h may =
      touched_sound (touched i Synced) (touched i' Synced) ts found is run
      (record {
        alike = record {
          file = i.reads;
          file' = i'.reads;
          all = h.alike.lost;
          wrote = [];
          lost = h.alike.lost;
          lost' = [];
          shows = ap (synced (Some i.reads)) h.alike.shows;
          shows' = ap (synced (Some i'.reads)) h.alike.shows'
              ∙ ap (λ (l : List (ℕ × ℕ)). one i'.reads l l) h.none;
          durable = h.reads;
          of = λ x l. inl l;
          end = omega (arith, h.reads.ends);
        };
        none = refl;
        reads = h.reads;
      })
      may
  touched_sound i i' (Unwrote pos piece ∷ []) found is run h may =
      let w = wrote_alike i i' pos piece h.alike in
      end_found (touched i (Unwrote pos piece)) (touched i' (Unwrote pos piece)) found is
      (record {
        file = w.file;
        file' = w.file';
        all = w.all;
        wrote = w.wrote;
        lost = (pos, length piece) ∷ w.lost;
        lost' = (pos, length piece) ∷ w.lost';
        shows = ap (in_each (lose pos (length piece))) w.shows;
        shows' = ap (in_each (lose pos (length piece))) w.shows';
        durable = pair_losing w.lost h.alike.wrote w.file w.file' pos (length piece) w.durable;
        of = λ x l. ⊎_elim (λ a. inl (inr a)) (λ b. inr b) (w.of x l);
        end = w.end;
      }) may
  touched_sound i i' (Unwrote pos piece ∷ t ∷ ts) found is run h may = absurd (cc)
  touched_sound i i' (Unsynced ∷ []) found is run h may =
      let a = h.alike in
      end_found (touched i Unsynced) (touched i' Unsynced) found is
      (record {
        file = a.file;
        file' = a.file';
        all = a.all;
        wrote = a.wrote;
        lost = a.all;
        lost' = a.wrote;
        shows = ap (in_each lose_all) a.shows;
        shows' = ap (in_each lose_all) a.shows';
        durable = pair_all a.all a.lost a.wrote a.file a.file' a.of a.end a.durable;
        of = λ x l. inl l;
        end = a.end;
      }) may
  touched_sound i i' (Unsynced ∷ t ∷ ts) found is run h may = absurd (cc)

-- ---- the image that has in its lost ranges what is found

abbrev choose : {P Q : Type 0} → P ⊎ Q → ℕ → ℕ → ℕ
choose (inl p) a b = a
choose (inr q) a b = b

chosen : {P A B : Type 0} → (d : P ⊎ (P → ⊥)) (e : A ⊎ B) (a b : ℕ)
    → (P × (choose d a (choose e b a) ≡ a))
    ⊎ (((P → ⊥) × A × (choose d a (choose e b a) ≡ b)) ⊎ (choose d a (choose e b a) ≡ a))
chosen (inl p) e a b = inl (p, refl)
chosen (inr off) (inl has) a b = inr (inl (off, has, refl))
chosen (inr off) (inr past) a b = inr (inr refl)

module _ (file : File) (lost : List (ℕ × ℕ)) (g : File) where
  abbrev size : ℕ
  size = max (length file.bytes) (min (length g.bytes) (loose_end lost))

  abbrev byte_at : ℕ → ℕ
  byte_at x =
      choose (loose_or_not lost x) (by g.bytes x) (choose (cases_lt x (length file.bytes)) (by file.bytes x)
      (by g.bytes x))

  abbrev filled : File
  filled = record { bytes = made size byte_at; regular = file.regular }

  byte_is : (x : ℕ)
      → (IsLoose lost x × (byte_at x ≡ by g.bytes x))
      ⊎ (((IsLoose lost x → ⊥) × (x < length file.bytes) × (byte_at x ≡ by file.bytes x)) ⊎ (byte_at x ≡ by g.bytes x))
  byte_is x = chosen (loose_or_not lost x) (cases_lt x (length file.bytes)) (by g.bytes x) (by file.bytes x)

  filled_long : length filled.bytes ≡ size
  filled_long = length-made size byte_at

  filled_stands : (x : ℕ) → x < length file.bytes → IsLoose lost x ⊎ (by filled.bytes x ≡ by file.bytes x)
  filled_stands x lt = elim (loose_or_not lost x) [
    | inl l ↦ inl l
    | inr off ↦ inr (by-made size byte_at x (omega (arith, lt))
        ∙ not_loose off (loose_or_not lost x) (cases_lt x (length file.bytes)))
  ]
    where
      not_loose : (IsLoose lost x → ⊥) → (d : IsLoose lost x ⊎ (IsLoose lost x → ⊥))
          (e : (x < length file.bytes) ⊎ (length file.bytes ≤ x))
          → choose d (by g.bytes x) (choose e (by file.bytes x) (by g.bytes x)) ≡ by file.bytes x
      not_loose off (inl l) e = absurd (off l)
      not_loose off (inr o) (inl has) = refl
      not_loose off (inr o) (inr past) = absurd (omega (arith, lt, past))

  filled_matches : Matches file lost filled
  filled_matches = record {
    stands = filled_stands;
    no_shorter = omega (arith, filled_long);
    no_longer = omega (arith, filled_long);
    regular = refl;
  }

  filled_pair : Pair g.bytes (length file.bytes) (loose_end lost) lost [] file filled
  filled_pair = record {
    regular = refl;
    size = omega (arith, filled_long);
    long = omega arith;
    ends = omega arith;
    each = λ x free lt.
        let here : by filled.bytes x ≡ byte_at x = by-made size byte_at x (omega (arith, lt, filled_long)) in
        ⊎_elim (λ l. inr (here ∙ l.1))
        (λ o. ⊎_elim (λ s. inl (s.0, s.1, here ∙ s.2)) (λ e. inr (here ∙ e)) o) (byte_is x);
  }

-- an image stays of one version
record Shaped (i : Image) : Type 0 where
  pub file : File
  pub loose : List (ℕ × ℕ)
  pub lost : List (ℕ × ℕ)
  pub is : i.shows ≡ one file loose lost

touched_shaped : (i : Image) (t : Touch) → Shaped i → Shaped (touched i t)
touched_shaped i (Wrote pos piece) h = record {
  file = h.file;
  loose = (pos, length piece) ∷ h.loose;
  lost = flat_map (without pos (length piece)) h.lost;
  is = ap (loosened pos (length piece)) h.is;
}
touched_shaped i Synced h =
    record { file = i.reads; loose = h.lost; lost = h.lost; is = ap (synced (Some i.reads)) h.is }
touched_shaped i (Unwrote pos piece) h = record {
  file = h.file;
  loose = (pos, length piece) ∷ h.loose;
  lost = (pos, length piece) ∷ flat_map (without pos (length piece)) h.lost;
  is = ap (λ (s : Showing). in_each (lose pos (length piece)) (loosened pos (length piece) s)) h.is;
}
touched_shaped i Unsynced h =
    record { file = h.file; loose = h.loose; lost = h.loose; is = ap (in_each lose_all) h.is }

never_gone : (i : Image) (ts : List Touch) → Shaped i → MayShow (touched_by i ts).shows None → ⊥
never_gone i [] h may = one_none h.file h.loose h.lost (subst (λ (s : Showing). MayShow s None) h.is may)
never_gone i (t ∷ ts) h may = never_gone (touched i t) ts (touched_shaped i t h) may

-- Whatever a run does, what a stop leaves of an image with lost ranges, it leaves of one that lost none, and that had
-- other bytes at most in those ranges.
pub lost_resolved : (file : File) (lost : List (ℕ × ℕ)) (touches : List Touch) (found : Option File) → AreOfRun touches
    → MayShow (touched_by (after_sync file lost) touches).shows found
    → (was : File) × Matches file lost was × MayShow (touched_by (after_sync was []) touches).shows found
lost_resolved file lost touches None run may =
    absurd (never_gone (after_sync file lost) touches
    (record { file = file; loose = lost; lost = lost; is = refl }) may)
lost_resolved file lost touches (Some g) run may = (
  filled file lost g,
  filled_matches file lost g,
  touched_sound g.bytes (length file.bytes) (loose_end lost) (after_sync file lost) (after_sync (filled file lost g) [])
      touches g refl run
      (record {
        alike = record {
          file = file;
          file' = filled file lost g;
          all = lost;
          wrote = [];
          lost = lost;
          lost' = [];
          shows = refl;
          shows' = refl;
          durable = filled_pair file lost g;
          of = λ x l. inl l;
          end = omega arith;
        };
        none = refl;
        reads = filled_pair file lost g;
      }) may,
)
