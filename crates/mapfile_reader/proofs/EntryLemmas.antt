-- Numbers above a limit that were cut to it are still above it, and the others are as they were.
use Rattle.std.proofs.Common.{◌≡◌, ◌⊎◌, ℕ, ◌+◌, ◌<◌, ◌≤◌, ◌^◌, Option, Some, None, refl, sym, ap, ◌∙◌, inl, inr, arith, ⊎_elim}
use Rattle.std.specs.Option.{option_map}
use Rattle.block_list.specs.declared.block.Block.{Block}
use Rattle.mapfile_text.specs.declared.state.Current.{Current}
use Rattle.mapfile_text.specs.declared.state.MapState.{MapState}
use Rattle.mapfile_reader.specs.Reading.{capped_state, capped_block}

pub large_block : (o : Option Block) (b : Block) → Some b ≡ option_map capped_block o → 2 ^ 63 ≤ b.pos + b.size
    → (block : Block) × (o ≡ Some block) × (2 ^ 63 ≤ block.pos + block.size)
large_block None b e h = absurd (cc)
large_block (Some x) b e h =
    let same : b ≡ capped_block x = cc in
    (x, refl, omega (arith, ap (λ (y : Block). y.pos) same, ap (λ (y : Block). y.size) same))

pub none_state : (o : Option MapState) → None ≡ option_map capped_state o → o ≡ None
none_state None e = refl
none_state (Some s) e = absurd (cc)

pub small_state : (o : Option MapState) (pos : ℕ) (current : Current) (pass : ℕ)
    → Some (pos, current, pass) ≡ option_map capped_state o → pos < 2 ^ 63 → pass < 2 ^ 32
    → o ≡ Some (record { pos = pos; current = current; pass = pass })
small_state None pos current pass e p q = absurd (cc)
small_state (Some s) pos current pass e p q =
    let same : (let t : ℕ × Current × ℕ = (pos, current, pass) in t) ≡ capped_state s = cc in
    let at : s.pos ≡ pos = omega (arith, ap (λ (y : ℕ × Current × ℕ). y.0) same) in
    let in_pass : s.pass ≡ pass = omega (arith, ap (λ (y : ℕ × Current × ℕ). y.2) same) in
    let doing : s.current ≡ current = sym (ap (λ (y : ℕ × Current × ℕ). y.1) same) in
    let made : ℕ → Current → ℕ → Option MapState = λ p d q. Some (record { pos = p; current = d; pass = q }) in
    ap (λ p. made p s.current s.pass) at ∙ ap (λ d. made pos d s.pass) doing ∙ ap (λ q. made pos current q) in_pass

pub large_state : (o : Option MapState) (pos : ℕ) (current : Current) (pass : ℕ)
    → Some (pos, current, pass) ≡ option_map capped_state o → (2 ^ 63 ≤ pos) ⊎ (2 ^ 32 ≤ pass)
    → (state : MapState) × (o ≡ Some state) × ((2 ^ 63 ≤ state.pos) ⊎ (2 ^ 32 ≤ state.pass))
large_state None pos current pass e h = absurd (cc)
large_state (Some s) pos current pass e h =
    let same : (let t : ℕ × Current × ℕ = (pos, current, pass) in t) ≡ capped_state s = cc in
    let at = ap (λ (y : ℕ × Current × ℕ). y.0) same in
    let in_pass = ap (λ (y : ℕ × Current × ℕ). y.2) same in
    (s, refl, ⊎_elim (λ (l : 2 ^ 63 ≤ pos). inl (omega (arith, at))) (λ (l : 2 ^ 32 ≤ pass). inr (omega (arith, in_pass))) h)
