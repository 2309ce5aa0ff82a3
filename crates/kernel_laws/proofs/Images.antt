-- The image: its opening, its writes and its syncs.
use Rattle.std.proofs.Common.{◌≡◌, ◌⊎◌, inl, inr, ⊎_elim, ℕ, ◌+◌, ◌-◌, ◌≤◌, ◌<◌, max, List, [], ◌∷◌, ◌++◌, length, take, drop, replicate, refl, sym, ◌∙◌, ap, subst, arith, append-nil, append_assoc}
use Rattle.std.specs.List.{flat_map}
use Rattle.std.proofs.lemmas.Bool.{cases_lt}
use Rattle.std.proofs.lemmas.List.{length-append, length-take, length-replicate, take-append-le, take_all, drop_all, drop-drop, drop-append-le}
use Rattle.kernel_files.specs.Volume.{Node, Volume, write, with_piece, with_loss, at_node, Entry as Step, Done as Did, after as after_steps, after_done as after_step, MayRead}
use Rattle.kernel_files.specs.Stops.{Along}
use Rattle.kernel_files.proofs.Volumes.{node_here, node_other}
use Rattle.crash_site.specs.Files.{written}
use Rattle.crash_site.specs.Disk.{without}
use Rattle.crash_site.specs.Left.{IsLoose, loose_end}
use Rattle.crash_site.proofs.RangeLemmas.{without_in, without_out, without_end}
use Rattle.crash_site.proofs.Written.{length-written, written_before, written_after}
use Rattle.kernel_laws.specs.Refines.{Inside}
use Rattle.kernel_files.specs.ImageCalls.{Writes}
use Rattle.kernel_laws.proofs.Covers.{inside_same, inside_on, inside_both, inside_more, inside_part}

-- A file while a range of it is written.

pub record Grown (pos len : ℕ) (f g : Node) : Type 0 where
  pub durable : g.durable ≡ f.durable
  pub loose : Inside g.loose ((pos, len) ∷ f.loose)
  pub lost : Inside g.lost ((pos, len) ∷ f.lost)
  pub ordered : Inside g.lost g.loose
  pub sound : MayRead g g.bytes

pub grown_same : (pos len : ℕ) (f : Node) → Inside f.lost f.loose → MayRead f f.bytes → Grown pos len f f
grown_same pos len f ordered sound = record {
  durable = refl;
  loose = inside_more (pos, len) f.loose f.loose (inside_same f.loose);
  lost = inside_more (pos, len) f.lost f.lost (inside_same f.lost);
  ordered = ordered;
  sound = sound;
}

-- what is left of lost ranges without another one
rest_inside : (at size : ℕ) (lost : List (ℕ × ℕ)) → Inside (flat_map (without at size) lost) lost
rest_inside at size lost = record {
  places = λ x l. without_in at size lost x l;
  end = (let e = without_end at size lost in omega (arith, e));
}

pub sound_piece : (at : ℕ) (piece : List ℕ) (g : Node) → MayRead g g.bytes
    → MayRead (record g { bytes = written g.bytes at piece; loose = (at, length piece) ∷ g.loose; lost = flat_map (without at (length piece)) g.lost })
    (written g.bytes at piece)
sound_piece at piece g h =
    let size : length (written g.bytes at piece) ≡ max (length g.bytes) (at + length piece) = length-written g.bytes at piece in
    let short : length g.durable ≤ length g.bytes = h.no_shorter in record {
      stands = λ x lt. elim (cases_lt x at) [
        | inl below ↦ ⊎_elim (λ l. inl (inr l))
            (λ e. inr (written_before g.bytes at piece x below (omega (arith, lt, short)) ∙ e)) (h.stands x lt)
        | inr le ↦ elim (cases_lt x (at + length piece)) [
          | inl inside ↦ inl (inl (le, inside))
          | inr above ↦ ⊎_elim (λ l. inl (inr l)) (λ e. inr (written_after g.bytes at piece x above ∙ e)) (h.stands x lt)
        ]
      ];
      no_shorter = omega (arith, short, size);
      no_longer = (let k : length g.bytes ≤ max (length g.durable) (loose_end g.loose) = h.no_longer in omega (arith, k, size));
    }

grown_piece : (pos len at : ℕ) (piece : List ℕ) (f g : Node) → pos ≤ at → at + length piece ≤ pos + len → Grown pos len f g
    → Grown pos len f (with_piece at piece g)
grown_piece pos len at [] f g low high h = h
grown_piece pos len at (b ∷ bs) f g low high h =
    let piece : List ℕ = b ∷ bs in
    let rest : Inside (flat_map (without at (length piece)) g.lost) g.lost = rest_inside at (length piece) g.lost in record {
      durable = h.durable;
      loose = inside_part pos len at (length piece) g.loose f.loose low high h.loose;
      lost = inside_on (flat_map (without at (length piece)) g.lost) g.lost ((pos, len) ∷ f.lost) rest h.lost;
      ordered = inside_more (at, length piece) (flat_map (without at (length piece)) g.lost) g.loose
          (inside_on (flat_map (without at (length piece)) g.lost) g.lost g.loose rest h.ordered);
      sound = sound_piece at piece g h.sound;
    }

pub grown_loss : (pos len at size : ℕ) (f g : Node) → pos ≤ at → at + size ≤ pos + len → Grown pos len f g
    → Grown pos len f (with_loss at size g)
grown_loss pos len at size f g low high h = record {
  durable = h.durable;
  loose = inside_part pos len at size g.loose f.loose low high h.loose;
  lost = inside_part pos len at size g.lost f.lost low high h.lost;
  ordered = inside_both (at, size) g.lost g.loose h.ordered;
  sound = record {
    stands = λ x lt. ⊎_elim (λ l. inl (inr l)) (λ e. inr e) (h.sound.stands x lt);
    no_shorter = h.sound.no_shorter;
    no_longer = (let k : length g.bytes ≤ max (length g.durable) (loose_end g.loose) = h.sound.no_longer in omega (arith, k));
  };
}

-- Two writes, one after the other, are one.

written_on : (old p q : List ℕ) (at : ℕ) → written (written old at p) (at + length p) q ≡ written old at (p ++ q)
written_on old p q at =
    let zeros : List ℕ = replicate (at - length old) 0 in
    let front : List ℕ = take at (old ++ zeros) in
    let rest : List ℕ = drop (at + length p) old in
    let first : List ℕ = front ++ p ++ rest in
    let size : length front ≡ at =
    omega (arith, length-take at (old ++ zeros), length-append old zeros, length-replicate {A = ℕ} (at - length old) 0) in
    let both : length (front ++ p) ≡ at + length p = omega (arith, length-append front p, size) in
    let long : at + length p ≤ length first = omega (arith, length-append (front ++ p) rest, both) in
    let kept : take (at + length p) (first ++ replicate (at + length p - length first) 0) ≡ front ++ p =
    take-append-le (at + length p) first (replicate (at + length p - length first) 0) long
    ∙ take-append-le (at + length p) (front ++ p) rest (omega (arith, both))
    ∙ take_all (at + length p) (front ++ p) (omega (arith, both)) in
    let after_both : drop (at + length p) first ≡ rest =
    drop-append-le (at + length p) (front ++ p) rest (omega (arith, both))
    ∙ ap (λ (l : List ℕ). l ++ rest) (drop_all (at + length p) (front ++ p) (omega (arith, both))) in
    let rest_is : drop (at + length p + length q) first ≡ drop (at + length (p ++ q)) old =
    sym (drop-drop (length q) (at + length p) first)
    ∙ ap (drop (length q)) after_both
    ∙ drop-drop (length q) (at + length p) old
    ∙ ap (λ (k : ℕ). drop k old) (let e : at + length p + length q ≡ at + length (p ++ q) = omega (arith, length-append p q) in e) in
    ap (λ (l : List ℕ). l ++ q ++ drop (at + length p + length q) first) kept
    ∙ ap (λ (l : List ℕ). front ++ p ++ q ++ l) rest_is
    ∙ ap (λ (l : List ℕ). l ++ drop (at + length (p ++ q)) old) (append_assoc front p q)

piece_on : (at : ℕ) (p q : List ℕ) (f : Node)
    → (with_piece (at + length p) q (with_piece at p f)).bytes ≡ (with_piece at (p ++ q) f).bytes
piece_on at [] q f = ap (λ (k : ℕ). (with_piece k q f).bytes) (let e : at + 0 ≡ at = omega arith in e)
piece_on at (b ∷ bs) [] f = ap (λ (l : List ℕ). (with_piece at (b ∷ l) f).bytes) (sym (append-nil bs))
piece_on at (b ∷ bs) (c ∷ cs) f = written_on f.bytes (b ∷ bs) (c ∷ cs) at

-- The files, while a range of one is written.
pub record Wrote (i pos len : ℕ) (old new : Volume) : Type 0 where
  pub names : new.names ≡ old.names
  pub may : new.may ≡ old.may
  pub others : (j : ℕ) → (j ≡ i → ⊥) → new.nodes j ≡ old.nodes j
  pub node : Grown pos len (old.nodes i) (new.nodes i)

wrote_node : (i pos len : ℕ) (change : Node → Node) (old v : Volume) → Grown pos len (old.nodes i) (change (v.nodes i))
    → Wrote i pos len old v
    → Wrote i pos len old (at_node i change v)
wrote_node i pos len change old v h w = record {
  names = w.names;
  may = w.may;
  others = λ j a. node_other i j change v a ∙ w.others j a;
  node = subst (λ (g : Node). Grown pos len (old.nodes i) g) (sym (node_here i change v)) h;
}

pub wrote_at : (i j pos len : ℕ) (change : Node → Node) (old v : Volume) → j ≡ i
    → Grown pos len (old.nodes i) (change (v.nodes i)) → Wrote i pos len old v → Wrote i pos len old (at_node j change v)
wrote_at i j pos len change old v e h w =
    subst (λ (k : ℕ). Wrote i pos len old (at_node k change v)) (sym e) (wrote_node i pos len change old v h w)

pub writes_along : (i pos len at : ℕ) (piece : List ℕ) (es : List Step) (old v : Volume) → Writes i at piece es → pos ≤ at
    → at + length piece ≤ pos + len → Wrote i pos len old v → Along (Wrote i pos len old) v es
writes_along i pos len at piece [] old v h low high w = w
writes_along i pos len at piece (Did (write j place p) ∷ es) old v h low high w =
    let size : length piece ≡ length p + length h.0 = ap length h.3 ∙ length-append p h.0 in
    let from : pos ≤ place = (let e : place ≡ at = h.2 in omega (arith, e, low)) in
    let to : place + length p ≤ pos + len = (let e : place ≡ at = h.2 in omega (arith, e, high, size)) in
    let next : Wrote i pos len old (after_step (write j place p) v) =
    wrote_at i j pos len (with_piece place p) old v h.1 (grown_piece pos len place p (old.nodes i) (v.nodes i) from to w.node) w in (
      w,
      wrote_at i j pos len (with_loss place (length p)) old v h.1
          (grown_loss pos len place (length p) (old.nodes i) (v.nodes i) from to w.node) w,
      writes_along i pos len (at + length p) h.0 es old (after_step (write j place p) v) h.4 (omega (arith, low))
          (omega (arith, high, size)) next,
    )
writes_along i pos len at piece (e ∷ es) old v h low high w = absurd h

-- the node after a write of a piece
next_node : (i j at place : ℕ) (p : List ℕ) (v : Volume) → j ≡ i → place ≡ at
    → (after_step (write j place p) v).nodes i ≡ with_piece at p (v.nodes i)
next_node i j at place p v e f =
    ap (λ (k : ℕ). (at_node k (with_piece place p) v).nodes i) e ∙ node_here i (with_piece place p) v
    ∙ ap (λ (k : ℕ). with_piece k p (v.nodes i)) f

pub writes_bytes : (i at : ℕ) (piece : List ℕ) (es : List Step) (v : Volume) → Writes i at piece es
    → ((after_steps v es).nodes i).bytes ≡ (with_piece at piece (v.nodes i)).bytes
writes_bytes i at piece [] v h = ap (λ (l : List ℕ). (with_piece at l (v.nodes i)).bytes) (sym h)
writes_bytes i at piece (Did (write j place p) ∷ es) v h =
    writes_bytes i (at + length p) h.0 es (after_step (write j place p) v) h.4
    ∙ ap (λ (f : Node). (with_piece (at + length p) h.0 f).bytes) (next_node i j at place p v h.1 h.2)
    ∙ piece_on at p h.0 (v.nodes i)
    ∙ ap (λ (l : List ℕ). (with_piece at l (v.nodes i)).bytes) (sym h.3)
writes_bytes i at piece (e ∷ es) v h = absurd h

-- what stays lost after a whole write
pub record LostRest (at len : ℕ) (old new : List (ℕ × ℕ)) : Type 0 where
  pub places : (x : ℕ) → IsLoose new x → IsLoose old x × ((x < at) ⊎ (at + len ≤ x))
  pub end : loose_end new ≤ loose_end old

rest_piece : (at : ℕ) (p : List ℕ) (f : Node) → LostRest at (length p) f.lost (with_piece at p f).lost
rest_piece at [] f = record {
  places = λ x l. (l, elim (cases_lt x at) [ inl below ↦ inl below | inr le ↦ inr (omega (arith, le)) ]);
  end = omega arith;
}
rest_piece at (b ∷ bs) f =
    let size : ℕ = length (b ∷ bs) in record {
      places = λ x l. (without_in at size f.lost x l, without_out at size f.lost x l);
      end = (let e = without_end at size f.lost in omega (arith, e));
    }

rest_on : (at len more : ℕ) (a b c : List (ℕ × ℕ)) → LostRest at len a b → LostRest (at + len) more b c
    → LostRest at (len + more) a c
rest_on at len more a b c h k = record {
  places = λ x l.
      let s = k.places x l in
      let t = h.places x s.0 in (
        t.0,
        elim t.1 [
          | inl below ↦ inl below
          | inr above ↦ elim s.1 [ inl low ↦ absurd (omega (arith, above, low)) | inr high ↦ inr (omega (arith, high)) ]
        ],
      );
  end = (let e : loose_end b ≤ loose_end a = h.end in let f : loose_end c ≤ loose_end b = k.end in omega (arith, e, f));
}

pub writes_lost : (i at : ℕ) (piece : List ℕ) (es : List Step) (v : Volume) → Writes i at piece es
    → LostRest at (length piece) (v.nodes i).lost ((after_steps v es).nodes i).lost
writes_lost i at piece [] v h = record {
  places = λ x l. (
    l,
    elim (cases_lt x at) [
      | inl below ↦ inl below
      | inr le ↦ inr (let e : length piece ≡ 0 = ap length h in omega (arith, le, e))
    ],
  );
  end = omega arith;
}
writes_lost i at piece (Did (write j place p) ∷ es) v h =
    let w : Volume = after_step (write j place p) v in
    let first : LostRest at (length p) (v.nodes i).lost (w.nodes i).lost =
    subst (λ (f : Node). LostRest at (length p) (v.nodes i).lost f.lost) (sym (next_node i j at place p v h.1 h.2)) (rest_piece at p (v.nodes i)) in
    let both = rest_on at (length p) (length h.0) (v.nodes i).lost (w.nodes i).lost ((after_steps w es).nodes i).lost first
    (writes_lost i (at + length p) h.0 es w h.4) in
    subst (λ (k : ℕ). LostRest at k (v.nodes i).lost ((after_steps w es).nodes i).lost)
    (sym (ap length h.3 ∙ length-append p h.0)) both
writes_lost i at piece (e ∷ es) v h = absurd h
