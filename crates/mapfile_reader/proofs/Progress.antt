-- What reading block lines one after another comes to.
use Rattle.std.proofs.Common.{◌≡◌, ℕ, ◌+◌, ◌-◌, Bool, true, false, List, [], ◌∷◌, ◌++◌, length, replicate, cond, refl, sym, ap, subst, ◌∙◌, inl, inr, arith, append_assoc, length-append}
use Rattle.std.proofs.lemmas.List.{append-nil, length-replicate}
use Rattle.std.proofs.lemmas.Bool.{false≢true}
use Rattle.block_list.specs.declared.status.Status.{Status}
use Rattle.block_list.specs.declared.status.Status.TheVariants.{NonTried}
use Rattle.block_list.specs.declared.block.Block.{Block}
use Rattle.block_list.specs.Stretches.{covered}
use Rattle.mapfile_text.specs.declared.read.Mode.{Mode}
use Rattle.mapfile_text.specs.declared.read.Mode.TheVariants.{Tight, Loose}
use Rattle.mapfile_text.specs.declared.read.MapError.{MapError}
use Rattle.mapfile_text.specs.declared.read.MapError.TheVariants.{Overlap, Gap}
use Rattle.mapfile_text.specs.Lines.{Line}
use Rattle.mapfile_text.specs.MapText.{IsBlockLine, IsGap, Continues, Lists, BlockFault, PlaceFault, ContinuesFault, ListsFault}
use Rattle.mapfile_text.specs.declared.state.MapState.{MapState}
use Rattle.mapfile_reader.specs.declared.check.MapShape.{MapShape}
use Rattle.mapfile_reader.specs.Reading.{gap_of, padding}
use Rattle.mapfile_reader.specs.Checking.{ListsShape}

-- the lines that are left make these of a map that lists these statuses so far
abbrev Reads : Mode → (listed : Bool) → (first : ℕ) → (statuses : List Status) → List Line → (first' : ℕ)
    → (listed' : Bool) → (statuses' : List Status) → Type 0
Reads mode false first statuses ls first' listed' statuses' = Lists mode ls first' listed' statuses'
Reads mode true first statuses ls first' listed' statuses' =
    (rest : List Status) × (first' ≡ first) × (listed' ≡ true) × (statuses' ≡ statuses ++ rest) × Continues mode (length statuses) ls rest

-- the first of the lines that are left that breaks a rule
abbrev Faults : Mode → (listed : Bool) → (statuses : List Status) → List Line → MapError → Type 0
Faults mode false statuses ls e = ListsFault mode ls e
Faults mode true statuses ls e = ContinuesFault mode (length statuses) ls e

-- all lines come to what the lines that are left make of the map so far
pub record Goes (mode : Mode) (all : List Line) (listed : Bool) (first : ℕ) (statuses : List Status) (ls : List Line) : Type 0 where
  reads : (first' : ℕ) (listed' : Bool) (statuses' : List Status)
      → Reads mode listed first statuses ls first' listed' statuses' → Lists mode all first' listed' statuses'
  faults : (e : MapError) → Faults mode listed statuses ls e → ListsFault mode all e
  pub blank : listed ≡ false → (first ≡ 0) × (statuses ≡ [])

pub goes-begin : (mode : Mode) (all : List Line) (listed : Bool) (first : ℕ) (statuses : List Status) → listed ≡ false
    → first ≡ 0 → statuses ≡ [] → Goes mode all listed first statuses all
goes-begin mode all true first statuses l f s = absurd (cc)
goes-begin mode all false first statuses l f s = record { reads = λ first' listed' statuses' h. h; faults = λ e h. h; blank = λ _. (f, s) }

pub goes-end : {mode : Mode} {all : List Line} {first : ℕ} {statuses : List Status} (listed : Bool)
    → Goes mode all listed first statuses [] → Lists mode all first listed statuses
goes-end {first = first} {statuses = statuses} false g = let at = g.blank refl in g.reads first false statuses (at.0, refl, at.1)
goes-end {first = first} {statuses = statuses} true g = g.reads first true statuses ([], refl, refl, sym (append-nil statuses), refl)

pub goes-bad_block : {mode : Mode} {all : List Line} {first : ℕ} {statuses : List Status} {l : Line} {ls : List Line}
    (e : MapError) (listed : Bool) → Goes mode all listed first statuses (l ∷ ls) → BlockFault l e
    → ListsFault mode all e
goes-bad_block e false g b = g.faults e (inl b)
goes-bad_block e true g b = g.faults e (inl b)

pub goes-bad_place : {mode : Mode} {all : List Line} {first : ℕ} {statuses : List Status} {l : Line} {ls : List Line}
    {block : Block} (e : MapError) (listed : Bool)
    → Goes mode all listed first statuses (l ∷ ls) → listed ≡ true → IsBlockLine l block → PlaceFault mode (length statuses) l block e → ListsFault mode all e
goes-bad_place e false g t b p = absurd (false≢true t)
goes-bad_place {block = block} e true g t b p = g.faults e (inr (inl (block, b, p)))

end-of_gap : (mode : Mode) (end pos : ℕ) (block : Block) → pos ≡ block.pos → IsGap mode end pos (gap_of mode end pos)
    → (statuses : List Status) → length statuses ≡ end
    → length (statuses ++ (gap_of mode end pos ++ covered block)) ≡ block.pos + block.size
end-of_gap Tight end pos block e g statuses long = omega (arith, length-append statuses ([] ++ covered block), length-replicate block.size block.status, g.0)
end-of_gap (Loose status) end pos block e g statuses long =
    omega (
      arith,
      length-append statuses (replicate (pos - end) status ++ covered block),
      length-append (replicate (pos - end) status) (covered block),
      length-replicate (pos - end) status,
      length-replicate block.size block.status,
      g.0,
    )

goes-on : {mode : Mode} {all : List Line} {l : Line} {ls : List Line} (listed : Bool) (first first' : ℕ) (statuses statuses' : List Status) (block : Block)
    → Goes mode all listed first statuses (l ∷ ls) → IsBlockLine l block
    → (listed ≡ true → IsGap mode (length statuses) block.pos (gap_of mode (length statuses) block.pos))
    → first' ≡ cond listed first block.pos
    → statuses' ≡ statuses ++ (padding mode listed (length statuses) block.pos ++ covered block)
    → Goes mode all true first' statuses' ls
goes-on {mode = mode} {l = l} {ls = ls} false first first' statuses statuses' block g b gap f s =
    let none : statuses ≡ [] = (g.blank refl).1 in
    let whole : statuses' ≡ replicate block.pos NonTried ++ covered block = s ∙ ap (λ ss. ss ++ (replicate block.pos NonTried ++ covered block)) none in
    let end : length statuses' ≡ block.pos + block.size =
    ap length whole ∙ omega (
      arith,
      length-append (replicate block.pos NonTried) (covered block),
      length-replicate block.pos NonTried,
      length-replicate block.size block.status,
    ) in
    let reads = λ (first'' : ℕ) (listed'' : Bool) (statuses'' : List Status) (h : Reads mode true first' statuses' ls first'' listed'' statuses'').
    let at : first'' ≡ block.pos = h.1 ∙ f in
    let all : statuses'' ≡ replicate first'' NonTried ++ (covered block ++ h.0) =
    h.3 ∙ ap (λ ss. ss ++ h.0) whole ∙ append_assoc (replicate block.pos NonTried) (covered block) h.0
    ∙ ap (λ n. replicate n NonTried ++ (covered block ++ h.0)) (sym at) in
    g.reads first'' listed'' statuses'' (block, h.0, b, at, h.2, all, subst (λ (n : ℕ). Continues mode n ls h.0) end h.4) in
    let faults = λ (e : MapError) (h : Faults mode true statuses' ls e). g.faults e (inr (block, b, subst (λ (n : ℕ). ContinuesFault mode n ls e) end h)) in
    record { reads = reads; faults = faults; blank = λ t. absurd (false≢true (sym t)) }
goes-on {mode = mode} {l = l} {ls = ls} true first first' statuses statuses' block g b gap f s =
    let between = gap_of mode (length statuses) block.pos in
    let allowed = gap refl in
    let end : length statuses' ≡ block.pos + block.size = ap length s ∙ end-of_gap mode (length statuses) block.pos block refl allowed statuses refl in
    let reads = λ (first'' : ℕ) (listed'' : Bool) (statuses'' : List Status) (h : Reads mode true first' statuses' ls first'' listed'' statuses'').
    let more : statuses'' ≡ statuses ++ (between ++ (covered block ++ h.0)) =
    h.3 ∙ ap (λ ss. ss ++ h.0) s ∙ append_assoc statuses (between ++ covered block) h.0
    ∙ ap (λ ss. statuses ++ ss) (append_assoc between (covered block) h.0) in
    g.reads first'' listed'' statuses'' (
      between ++ (covered block ++ h.0),
      h.1 ∙ f,
      h.2,
      more,
      (block, between, h.0, b, allowed, refl, subst (λ (n : ℕ). Continues mode n ls h.0) end h.4),
    ) in
    let faults = λ (e : MapError) (h : Faults mode true statuses' ls e). g.faults e
    (inr (inr (block, between, b, allowed, subst (λ (n : ℕ). ContinuesFault mode n ls e) end h))) in
    record { reads = reads; faults = faults; blank = λ t. absurd (false≢true (sym t)) }

pub goes-next : {mode : Mode} {all : List Line} {l : Line} {ls : List Line} (listed listed' : Bool) (first first' : ℕ)
    (statuses statuses' : List Status) (block : Block)
    → listed' ≡ true → Goes mode all listed first statuses (l ∷ ls) → IsBlockLine l block
    → (listed ≡ true → IsGap mode (length statuses) block.pos (gap_of mode (length statuses) block.pos))
    → first' ≡ cond listed first block.pos
    → statuses' ≡ statuses ++ (padding mode listed (length statuses) block.pos ++ covered block)
    → Goes mode all listed' first' statuses' ls
goes-next {mode = mode} {all = all} {ls = ls} listed listed' first first' statuses statuses' block t g b gap f s =
    subst (λ (y : Bool). Goes mode all y first' statuses' ls) (sym t) (goes-on listed first first' statuses statuses' block g b gap f s)

-- the shape so far is that of statuses that the lines so far list, and the lines that are left come to all lines
pub record Comes (mode : Mode) (all : List Line) (shape : MapShape) (ls : List Line) : Type 0 where
  statuses : List Status
  goes : Goes mode all shape.listed shape.first statuses ls
  end : shape.end ≡ length statuses
  pub lines : shape.lines + length ls ≡ length all

pub comes-begin : (mode : Mode) (all : List Line) (state : MapState)
    → Comes mode all (record { state = state; first = 0; listed = false; end = 0; lines = 0 }) all
comes-begin mode all state = record { statuses = []; goes = goes-begin mode all false 0 [] refl refl refl; end = refl; lines = omega arith }

pub comes-end : {mode : Mode} {all : List Line} {shape : MapShape} → Comes mode all shape [] → ListsShape mode all shape
comes-end {shape = shape} c = record { statuses = c.statuses; lists = goes-end shape.listed c.goes; end = c.end; lines = omega (arith, c.lines) }

pub comes-bad_block : {mode : Mode} {all : List Line} {shape : MapShape} {l : Line} {ls : List Line} (e : MapError)
    → Comes mode all shape (l ∷ ls) → BlockFault l e → ListsFault mode all e
comes-bad_block {shape = shape} e c b = goes-bad_block e shape.listed c.goes b

pub comes-bad_place : {mode : Mode} {all : List Line} {shape : MapShape} {l : Line} {ls : List Line} {block : Block}
    (e : MapError) → Comes mode all shape (l ∷ ls) → shape.listed ≡ true → IsBlockLine l block
    → PlaceFault mode shape.end l block e → ListsFault mode all e
comes-bad_place {mode = mode} {shape = shape} {l = l} {block = block} e c t b p =
    goes-bad_place e shape.listed c.goes t b (subst (λ (n : ℕ). PlaceFault mode n l block e) c.end p)

end_after : (mode : Mode) (listed : Bool) (statuses : List Status) (block : Block) → (listed ≡ false → statuses ≡ [])
    → (listed ≡ true → IsGap mode (length statuses) block.pos (gap_of mode (length statuses) block.pos))
    → length (statuses ++ (padding mode listed (length statuses) block.pos ++ covered block)) ≡ block.pos + block.size
end_after mode false statuses block none gap =
    ap (λ ss. length (ss ++ (replicate block.pos NonTried ++ covered block))) (none refl)
    ∙ omega (
      arith,
      length-append (replicate block.pos NonTried) (covered block),
      length-replicate block.pos NonTried,
      length-replicate block.size block.status,
    )
end_after mode true statuses block none gap = end-of_gap mode (length statuses) block.pos block refl (gap refl) statuses refl

pub comes-next : {mode : Mode} {all : List Line} {l : Line} {ls : List Line} (shape shape' : MapShape) (block : Block)
    → shape' ≡ record shape { first = cond shape.listed shape.first block.pos; listed = true; end = block.pos + block.size; lines = shape.lines + 1 }
    → Comes mode all shape (l ∷ ls) → IsBlockLine l block
    → (shape.listed ≡ true → IsGap mode shape.end block.pos (gap_of mode shape.end block.pos))
    → Comes mode all shape' ls
comes-next {mode = mode} {all = all} {ls = ls} shape shape' block e c b gap =
    let more : List Status = c.statuses ++ (padding mode shape.listed (length c.statuses) block.pos ++ covered block) in
    let gap' = λ (t : shape.listed ≡ true). subst (λ (n : ℕ). IsGap mode n block.pos (gap_of mode n block.pos)) c.end (gap t) in
    subst (λ (s : MapShape). Comes mode all s ls) (sym e) (record {
      statuses = more;
      goes = goes-next shape.listed true shape.first (cond shape.listed shape.first block.pos) c.statuses more block refl c.goes b gap' refl refl;
      end = sym (end_after mode shape.listed c.statuses block (λ f. (c.goes.blank f).1) gap');
      lines = omega (arith, c.lines);
    })

-- where a block can't follow is a fault of the line with the number
pub same_place : (mode : Mode) (end : ℕ) (l l' : Line) (b : Block) (e : MapError) → l.number ≡ l'.number
    → PlaceFault mode end l b e → PlaceFault mode end l' b e
same_place Tight end l l' b e q f = elim f [ inl x ↦ inl (x.0 ∙ ap Overlap q, x.1) | inr x ↦ inr (x.0 ∙ ap Gap q, x.1) ]
same_place (Loose status) end l l' b e q f = (f.0 ∙ ap Overlap q, f.1)
