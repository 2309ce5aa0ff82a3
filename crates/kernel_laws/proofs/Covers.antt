-- What the versions of an image have, as its file is written and synced.
use Rattle.std.proofs.Common.{◌≡◌, ◌⊎◌, inl, inr, ℕ, ◌+◌, ◌≤◌, ◌<◌, max, List, [], ◌∷◌, length, map, Option, Some, None, refl, sym, ◌∙◌, subst, arith}
use Rattle.kernel_files.specs.Volume.{Node, MayRead, Leaves as LeavesEntry, LeavesOne, Free}
use Rattle.crash_site.specs.Files.{File}
use Rattle.crash_site.specs.Disk.{Version, Showing, newest, in_each}
use Rattle.crash_site.specs.Left.{loose_end, Matches, MatchesFile, MatchesOne, MayShow, IsText}
use Rattle.kernel_laws.specs.Refines.{as_file, IsAmong, Inside, Covers, CoversEntry, CoversOne, IsCovered}
use Rattle.kernel_laws.proofs.Nodes.{file_with}

-- Ranges.

pub inside_same : (a : List (ℕ × ℕ)) → Inside a a
inside_same a = record { places = λ x l. l; end = omega arith }

pub inside_on : (a b c : List (ℕ × ℕ)) → Inside a b → Inside b c → Inside a c
inside_on a b c h k = record {
  places = λ x l. k.places x (h.places x l);
  end = (let f : loose_end a ≤ loose_end b = h.end in let g : loose_end b ≤ loose_end c = k.end in omega (arith, f, g));
}

pub inside_none : (a b : List (ℕ × ℕ)) → a ≡ [] → Inside a b
inside_none a b none = subst (λ (l : List (ℕ × ℕ)). Inside l b) (sym none) (record { places = λ x l. absurd l; end = omega arith })

-- the same range is added to both
pub inside_both : (r : ℕ × ℕ) (a b : List (ℕ × ℕ)) → Inside a b → Inside (r ∷ a) (r ∷ b)
inside_both r a b h = record {
  places = λ x l. elim l [ inl here ↦ inl here | inr more ↦ inr (h.places x more) ];
  end = (let e : loose_end a ≤ loose_end b = h.end in omega (arith, e));
}

pub inside_more : (r : ℕ × ℕ) (a b : List (ℕ × ℕ)) → Inside a b → Inside a (r ∷ b)
inside_more r a b h = record {
  places = λ x l. inr (h.places x l);
  end = (let e : loose_end a ≤ loose_end b = h.end in omega (arith, e));
}

-- a range within another one is added
pub inside_part : (pos len at size : ℕ) (a b : List (ℕ × ℕ)) → pos ≤ at → at + size ≤ pos + len
    → Inside a ((pos, len) ∷ b)
    → Inside ((at, size) ∷ a) ((pos, len) ∷ b)
inside_part pos len at size a b low high h = record {
  places = λ x l. elim l [
    | inl here ↦ inl (omega (arith, low, here.0), omega (arith, high, here.1))
    | inr more ↦ h.places x more
  ];
  end = (let e : loose_end a ≤ max (pos + len) (loose_end b) = h.end in omega (arith, e, high));
}

-- What is covered is shown.

pub covers_found : (f : Node) (was : File) (loose : List (ℕ × ℕ)) (found : List ℕ) → Covers f was loose → MayRead f found
    → Matches was loose (file_with found)
covers_found f was loose found c h = record {
  stands = λ x lt.
      let within : x < length f.durable = (let k : length was.bytes ≤ length f.durable = c.durable.no_shorter in omega (arith, k, lt)) in
      elim (h.stands x within) [
        | inl l ↦ inl (c.loose.places x l)
        | inr e ↦ elim (c.durable.stands x lt) [ inl l ↦ inl l | inr g ↦ inr (e ∙ g) ]
      ];
  no_shorter = (let k : length was.bytes ≤ length f.durable = c.durable.no_shorter in let m : length f.durable ≤ length found = h.no_shorter in omega (arith, k, m));
  no_longer = (let k : length f.durable ≤ max (length was.bytes) (loose_end loose) = c.durable.no_longer in
      let m : length found ≤ max (length f.durable) (loose_end f.loose) = h.no_longer in
      let e : loose_end f.loose ≤ loose_end loose = c.loose.end in omega (arith, k, m, e));
  regular = c.durable.regular;
}

entry_found : (nodes : ℕ → Node) (e : Option ℕ) (file : Option File) (loose : List (ℕ × ℕ)) (found : Option (List ℕ))
    → CoversEntry nodes e file loose → LeavesEntry nodes e found → MatchesFile file loose (as_file found)
entry_found nodes None None loose None c h = tt
entry_found nodes None None loose (Some bytes) c h = absurd h
entry_found nodes None (Some was) loose found c h = absurd c
entry_found nodes (Some i) None loose found c h = absurd c
entry_found nodes (Some i) (Some was) loose None c h = absurd h
entry_found nodes (Some i) (Some was) loose (Some bytes) c h = covers_found (nodes i) was loose bytes c h

one_found : (nodes : ℕ → Node) (e : Option ℕ) (ws : List Version) (found : Option (List ℕ)) → CoversOne nodes e ws
    → LeavesEntry nodes e found → MatchesOne ws (as_file found)
one_found nodes e [] found c h = absurd c
one_found nodes e (w ∷ ws) found (inl c) h = inl (entry_found nodes e w.file w.loose found c h)
one_found nodes e (w ∷ ws) found (inr c) h = inr (one_found nodes e ws found c h)

is_text : (nodes : ℕ → Node) (i : ℕ) (found : Option (List ℕ)) → LeavesEntry nodes (Some i) found → IsText (as_file found)
is_text nodes i None h = absurd h
is_text nodes i (Some bytes) h = refl

pub covered_found : (nodes : ℕ → Node) (e : Option ℕ) (s : Showing) (found : Option (List ℕ)) → IsCovered nodes e s
    → LeavesEntry nodes e found → MayShow s (as_file found)
covered_found nodes None s found (inl any) h = inl any
covered_found nodes None s found (inr c) h = inr (inr (one_found nodes None (s.durable ∷ s.since) found c h))
covered_found nodes (Some i) s found (inl any) h = inl any
covered_found nodes (Some i) s found (inr (inl text)) h = inr (inl (text, is_text nodes i found h))
covered_found nodes (Some i) s found (inr (inr c)) h = inr (inr (one_found nodes (Some i) (s.durable ∷ s.since) found c h))

-- an entry that leaves what is found
pub which : (nodes : ℕ → Node) (es : List (Option ℕ)) (found : Option (List ℕ)) → LeavesOne nodes es found
    → (e : Option ℕ) × IsAmong e es × LeavesEntry nodes e found
which nodes [] found h = absurd h
which nodes (e ∷ es) found (inl h) = (e, inl refl, h)
which nodes (e ∷ es) found (inr h) =
    let k : (e : Option ℕ) × IsAmong e es × LeavesEntry nodes e found = which nodes es found h in (k.0, inr k.1, k.2)

pub free_by : (i : ℕ) (es : List (Option ℕ)) → ((e : Option ℕ) → IsAmong e es → e ≡ Some i → ⊥) → Free i es
free_by i [] h = tt
free_by i (e ∷ es) h = (h e (inl refl), free_by i es (λ x is. h x (inr is)))

-- A change of a file, and of each version.

versions_change : (old new : ℕ → Node) (e : Option ℕ) (change : Version → Version)
    → ((w : Version) → CoversEntry old e w.file w.loose → CoversEntry new e (change w).file (change w).loose)
    → (ws : List Version) → CoversOne old e ws → CoversOne new e (map change ws)
versions_change old new e change keep [] c = c
versions_change old new e change keep (w ∷ ws) (inl c) = inl (keep w c)
versions_change old new e change keep (w ∷ ws) (inr c) = inr (versions_change old new e change keep ws c)

all_change : (old new : ℕ → Node) (e : Option ℕ) (change : Version → Version)
    → ((w : Version) → CoversEntry old e w.file w.loose → CoversEntry new e (change w).file (change w).loose)
    → (s : Showing) → CoversOne old e (s.durable ∷ s.since)
    → CoversOne new e ((in_each change s).durable ∷ (in_each change s).since)
all_change old new e change keep s (inl c) = inl (keep s.durable c)
all_change old new e change keep s (inr c) = inr (versions_change old new e change keep s.since c)

pub covered_change : (old new : ℕ → Node) (e : Option ℕ) (change : Version → Version)
    → ((w : Version) → CoversEntry old e w.file w.loose → CoversEntry new e (change w).file (change w).loose)
    → (s : Showing) → IsCovered old e s → IsCovered new e (in_each change s)
covered_change old new None change keep s (inl any) = inl any
covered_change old new None change keep s (inr c) = inr (all_change old new None change keep s c)
covered_change old new (Some i) change keep s (inl any) = inl any
covered_change old new (Some i) change keep s (inr (inl text)) = inr (inl text)
covered_change old new (Some i) change keep s (inr (inr c)) = inr (inr (all_change old new (Some i) change keep s c))

pub newest_change : (change : Version → Version) (durable : Version) (since : List Version)
    → newest (change durable) (map change since) ≡ change (newest durable since)
newest_change change durable [] = refl
newest_change change durable (w ∷ ws) = refl

-- the same versions, and a file that is the same
node_same : (old new : ℕ → Node) (i : ℕ) → new i ≡ old i → (file : Option File) (loose : List (ℕ × ℕ))
    → CoversEntry old (Some i) file loose → CoversEntry new (Some i) file loose
node_same old new i same None loose c = c
node_same old new i same (Some was) loose c = subst (λ (f : Node). Covers f was loose) (sym same) c

ones_same : (old new : ℕ → Node) (i : ℕ) → new i ≡ old i → (ws : List Version) → CoversOne old (Some i) ws
    → CoversOne new (Some i) ws
ones_same old new i same [] c = c
ones_same old new i same (w ∷ ws) (inl c) = inl (node_same old new i same w.file w.loose c)
ones_same old new i same (w ∷ ws) (inr c) = inr (ones_same old new i same ws c)

nones_same : (old new : ℕ → Node) (ws : List Version) → CoversOne old None ws → CoversOne new None ws
nones_same old new [] c = c
nones_same old new (w ∷ ws) (inl c) = inl (none_same w.file c)
  where
    none_same : (file : Option File) → CoversEntry old None file w.loose → CoversEntry new None file w.loose
    none_same None c = c
    none_same (Some was) c = c
nones_same old new (w ∷ ws) (inr c) = inr (nones_same old new ws c)

pub covered_same : (old new : ℕ → Node) (i : ℕ) → new i ≡ old i → (e : Option ℕ) → (e ≡ None) ⊎ (e ≡ Some i)
    → (s : Showing) → IsCovered old e s → IsCovered new e s
covered_same old new i same None own s (inl any) = inl any
covered_same old new i same None own s (inr c) = inr (nones_same old new (s.durable ∷ s.since) c)
covered_same old new i same (Some j) own s (inl any) = inl any
covered_same old new i same (Some j) own s (inr (inl text)) = inr (inl text)
covered_same old new i same (Some j) (inl none) s (inr (inr c)) = absurd (cc)
covered_same old new i same (Some j) (inr is) s (inr (inr c)) =
    let k : j ≡ i = cc in
    let at : new j ≡ old j = subst (λ (m : ℕ). new m ≡ old m) (sym k) same in
    inr (inr (ones_same old new j at (s.durable ∷ s.since) c))
