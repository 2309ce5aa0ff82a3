-- What is printed is read again as it was.
use Rattle.std.proofs.Common.{◌≡◌, ℕ, ◌+◌, ◌-◌, ◌<◌, ◌≤◌, ◌^◌, Bool, true, not, List, [], ◌∷◌, ◌++◌, length, map, replicate, codes, nat_eq, refl, sym, ap, subst, ◌∙◌, append_assoc, arith}
use Rattle.std.specs.List.{flat_map}
use Rattle.std.specs.Fmt.{decimal}
use Rattle.std.proofs.lemmas.Bool.{ne_eqb}
use Rattle.std.proofs.lemmas.Fmt.{decimal_nonempty}
use Rattle.std.proofs.lemmas.List.Elements.{All-nil, All-cons, All-append, All-replicate}
use Rattle.block_list.specs.declared.status.Status.{Status}
use Rattle.block_list.specs.declared.block.Block.{Block}
use Rattle.block_list.specs.Status.{symbol}
use Rattle.block_list.specs.Stretches.{covered, stretches}
use Rattle.block_list.specs.Tiling.{AreTiles}
use Rattle.block_list.proofs.TileLemmas.{tiles_end}
use Rattle.block_list.proofs.StretchLemmas.{stretches_tiles, stretches_covered}
use Rattle.block_list.proofs.TypeLemmas.{symbol_is_read}
use Rattle.mapfile_text.specs.declared.heading.Program.{Program}
use Rattle.mapfile_text.specs.declared.heading.Program.TheVariants.{Ddrescue, Ddrescuelog}
use Rattle.mapfile_text.specs.declared.state.MapState.{MapState}
use Rattle.mapfile_text.specs.declared.read.Mode.{Mode}
use Rattle.mapfile_text.specs.declared.read.Mode.TheVariants.{Tight, Loose}
use Rattle.mapfile_text.specs.HeadingLines.{HeadingLines}
use Rattle.mapfile_text.specs.Lines.{Line}
use Rattle.mapfile_text.specs.Fields.{state_by, block_by}
use Rattle.mapfile_text.specs.MapText.{IsStateLine, IsBlockLine, IsGap, Continues, Lists, AreMapLines}
use Rattle.mapfile_text.specs.Printed.{printed, with_newline, hexadecimal, shown_byte, program_line, command_heading, time_lines, heading_text, current_symbol, state_line, block_line}
use Rattle.mapfile_text.specs.Laws.{PrintedIsRead}
use Rattle.mapfile_text.proofs.PrintedBytes.{AllFrom, from_test, from_lower, decimal_from, hexadecimal_from, shown_line_from}
use Rattle.mapfile_text.proofs.ReadNumbers.{hexadecimal_is_read, pass_is_read, current_is_read, symbol_from, current_symbol_from}
use Rattle.mapfile_text.proofs.ReadLines.{said_from, said_is, said_line, IsComment, no_comment, comment, comments_join, state_fields, block_fields}

byte_from : (c : ℕ) → 33 ≤ c → AllFrom 11 (c ∷ [])
byte_from c h = All-cons (λ b. 11 ≤ b) c [] (omega arith) (All-nil (λ b. 11 ≤ b))

joined_from : (a b : List ℕ) → AllFrom 11 a → AllFrom 11 b → AllFrom 11 (a ++ b)
joined_from a b p q = All-append (λ b. 11 ≤ b) a b p q

blanks : (n : ℕ) → AllFrom 11 (replicate n 32)
blanks n = All-replicate (λ b. 11 ≤ b) n 32 (omega arith)

-- The lines of the heading are comments.

program_is_comment : (p : Program) → IsComment (program_line p)
program_is_comment Ddrescue =
    comment (codes "# Mapfile. Created by " ++ codes "ddrescue")
    (from_test 11 (codes "# Mapfile. Created by " ++ codes "ddrescue") refl) refl
program_is_comment Ddrescuelog =
    comment (codes "# Mapfile. Created by " ++ codes "ddrescuelog")
    (from_test 11 (codes "# Mapfile. Created by " ++ codes "ddrescuelog") refl) refl

command_is_comment : (line : List ℕ) → IsComment (command_heading line)
command_is_comment line =
    let name : List ℕ = codes "# Command line: " in
    comment (name ++ map shown_byte line) (joined_from name (map shown_byte line) (from_test 11 name refl) (shown_line_from line)) refl

times_are_comments : (p : Program) (start now : ℕ) → start < 2 ^ 64 → now < 2 ^ 64 → IsComment (time_lines p start now)
times_are_comments Ddrescuelog start now h k = no_comment
times_are_comments Ddrescue start now h k =
    let s : List ℕ = codes "# Start time:   " in
    let c : List ℕ = codes "# Current time: " in
    comments_join (with_newline (s ++ decimal start)) (with_newline (c ++ decimal now))
    (comment (s ++ decimal start) (joined_from s (decimal start) (from_test 11 s refl)
    (from_lower 11 33 (decimal start) (omega arith) (decimal_from start h))) refl)
    (comment (c ++ decimal now) (joined_from c (decimal now) (from_test 11 c refl) (from_lower 11 33 (decimal now) (omega arith) (decimal_from now k))) refl)

heading_is_comment : (h : HeadingLines) → h.start_s < 2 ^ 64 → h.now_s < 2 ^ 64 → IsComment (heading_text h)
heading_is_comment h p q =
    comments_join (program_line h.program ++ command_heading h.line) (time_lines h.program h.start_s h.now_s)
    (comments_join (program_line h.program) (command_heading h.line) (program_is_comment h.program) (command_is_comment h.line))
    (times_are_comments h.program h.start_s h.now_s p q)

state_columns_are_comment : IsComment (with_newline (codes "# current_pos  current_status  current_pass"))
state_columns_are_comment =
    comment (codes "# current_pos  current_status  current_pass")
    (from_test 11 (codes "# current_pos  current_status  current_pass") refl) refl

block_columns_are_comment : IsComment (with_newline (codes "#      pos        size  status"))
block_columns_are_comment = comment (codes "#      pos        size  status") (from_test 11 (codes "#      pos        size  status") refl) refl

-- the fields of the status line
abbrev state_parts : MapState → List (List ℕ)
state_parts s = hexadecimal s.pos ∷ (current_symbol s.current ∷ []) ∷ decimal s.pass ∷ []

state_is_said : (s : MapState) (n : ℕ) (rest : List ℕ) → s.pos < 2 ^ 63 → s.pass < 2 ^ 32
    → said_from n (state_line s ++ rest) ≡ record { number = n; fields = state_parts s } ∷ said_from (n + 1) rest
state_is_said s n rest p q =
    let x : List ℕ = hexadecimal s.pos in
    let c : ℕ = current_symbol s.current in
    let d : List ℕ = decimal s.pass in
    let hx : AllFrom 33 x = hexadecimal_from s.pos p in
    let hd : AllFrom 33 d = decimal_from s.pass (omega arith) in
    let bytes : AllFrom 11 (x ++ replicate 5 32 ++ c ∷ [] ++ replicate 15 32 ++ d) =
    joined_from (x ++ replicate 5 32 ++ c ∷ [] ++ replicate 15 32) d
    (joined_from (x ++ replicate 5 32 ++ c ∷ []) (replicate 15 32)
    (joined_from (x ++ replicate 5 32) (c ∷ []) (joined_from x (replicate 5 32) (from_lower 11 33 x (omega arith) hx)
    (blanks 5)) (byte_from c (current_symbol_from s.current)))
    (blanks 15))
    (from_lower 11 33 d (omega arith) hd) in
    said_line n (x ++ replicate 5 32 ++ c ∷ [] ++ replicate 15 32 ++ d) rest (state_parts s) bytes
    (state_fields x d c hx (omega arith) (current_symbol_from s.current) hd (decimal_nonempty s.pass (omega arith)))
    refl

state_is_read : (s : MapState) (n : ℕ) → s.pos < 2 ^ 63 → 0 < s.pass → s.pass < 2 ^ 32 → IsStateLine (record { number = n; fields = state_parts s }) s
state_is_read s n p some q =
    let pos = hexadecimal_is_read s.pos p in
    let current = current_is_read s.current in
    let pass = pass_is_read s.pass some (omega arith) in
    record { spells = λ i. state_by (pos i) (current i) (pass i); pos = p; pass = q }

-- the fields of a block line
abbrev block_parts : Block → List (List ℕ)
block_parts b = hexadecimal b.pos ∷ hexadecimal b.size ∷ (symbol b.status ∷ []) ∷ []

block_is_said : (b : Block) (n : ℕ) (rest : List ℕ) → b.pos + b.size < 2 ^ 63
    → said_from n (block_line b ++ rest) ≡ record { number = n; fields = block_parts b } ∷ said_from (n + 1) rest
block_is_said b n rest h =
    let x : List ℕ = hexadecimal b.pos in
    let y : List ℕ = hexadecimal b.size in
    let c : ℕ = symbol b.status in
    let gap : List ℕ = codes "  " in
    let hx : AllFrom 33 x = hexadecimal_from b.pos (omega arith) in
    let hy : AllFrom 33 y = hexadecimal_from b.size (omega arith) in
    let hgap : AllFrom 11 gap = from_test 11 gap refl in
    let bytes : AllFrom 11 (x ++ gap ++ y ++ gap ++ c ∷ []) =
    joined_from (x ++ gap ++ y ++ gap) (c ∷ [])
    (joined_from (x ++ gap ++ y) gap
    (joined_from (x ++ gap) y (joined_from x gap (from_lower 11 33 x (omega arith) hx) hgap) (from_lower 11 33 y (omega arith) hy))
    hgap)
    (byte_from c (symbol_from b.status)) in
    said_line n (x ++ gap ++ y ++ gap ++ c ∷ []) rest (block_parts b) bytes
    (block_fields x y c hx (omega arith) hy (omega arith) (symbol_from b.status))
    refl

block_is_read : (b : Block) (n : ℕ) → b.pos + b.size < 2 ^ 63 → IsBlockLine (record { number = n; fields = block_parts b }) b
block_is_read b n h =
    let pos = hexadecimal_is_read b.pos (omega arith) in
    let size = hexadecimal_is_read b.size (omega arith) in
    let status = symbol_is_read b.status in
    record { spells = λ i. block_by (pos i) (size i) (status i); end = h }

text_of_blocks : (b : Block) (bs : List Block) (n : ℕ) → b.pos + b.size < 2 ^ 63
    → said_from n (flat_map block_line (b ∷ bs)) ≡ record { number = n; fields = block_parts b } ∷ said_from (n + 1) (flat_map block_line bs)
text_of_blocks b bs n h = block_is_said b n (flat_map block_line bs) h

-- where nothing stands between two blocks, that is a gap in any mode
no_gap : (mode : Mode) (end pos : ℕ) → pos ≡ end → IsGap mode end pos []
no_gap Tight end pos e = (e, refl)
no_gap (Loose status) end pos e =
    let none : pos - end ≡ 0 = omega arith in
    (omega arith, ap (λ n. replicate n status) (sym none))

blocks_continue : (mode : Mode) (low at end n : ℕ) (bs : List Block) → AreTiles low bs end → end < 2 ^ 63 → at ≡ low
    → Continues mode at (said_from n (flat_map block_line bs)) (flat_map covered bs)
blocks_continue mode low at end n [] t h e = refl
blocks_continue mode low at end n (b ∷ bs) t h e =
    let ends : end ≡ low + b.size + length (flat_map covered bs) = tiles_end (low + b.size) bs end t.2 in
    let begins : b.pos ≡ low = t.0 in
    let short : b.pos + b.size < 2 ^ 63 = omega arith in
    subst (λ ls. Continues mode at ls (flat_map covered (b ∷ bs))) (sym (text_of_blocks b bs n short)) (
      b,
      [],
      flat_map covered bs,
      block_is_read b n short,
      no_gap mode at b.pos (begins ∙ sym e),
      refl,
      blocks_continue mode (low + b.size) (b.pos + b.size) end (n + 1) bs t.2 h (omega arith),
    )

blocks_are_read : (mode : Mode) (bs : List Block) (n end : ℕ) → AreTiles 0 bs end → end < 2 ^ 63
    → Lists mode (said_from n (flat_map block_line bs)) 0 (not (nat_eq end 0)) (flat_map covered bs)
blocks_are_read mode [] n end t h = (refl, ap (λ m. not (nat_eq m 0)) t, refl)
blocks_are_read mode (b ∷ bs) n end t h =
    let ends : end ≡ 0 + b.size + length (flat_map covered bs) = tiles_end (0 + b.size) bs end t.2 in
    let begins : b.pos ≡ 0 = t.0 in
    let some : 0 < b.size = t.1 in
    let short : b.pos + b.size < 2 ^ 63 = omega arith in
    let listed : not (nat_eq end 0) ≡ true = ap not (ne_eqb end 0 (λ e. omega arith)) in
    subst (λ ls. Lists mode ls 0 (not (nat_eq end 0)) (flat_map covered (b ∷ bs))) (sym (text_of_blocks b bs n short)) (
      b,
      flat_map covered bs,
      block_is_read b n short,
      sym begins,
      listed,
      refl,
      blocks_continue mode (0 + b.size) (b.pos + b.size) end (n + 1) bs t.2 h (omega arith),
    )

statuses_are_read : (mode : Mode) (statuses : List Status) (n : ℕ) → length statuses < 2 ^ 63
    → Lists mode (said_from n (flat_map block_line (stretches statuses))) 0 (not (nat_eq (length statuses) 0)) statuses
statuses_are_read mode statuses n h =
    let bs : List Block = stretches statuses in
    let same : 0 + length statuses ≡ length statuses = omega arith in
    let tiles : AreTiles 0 bs (length statuses) = subst (AreTiles 0 bs) same (stretches_tiles 0 statuses) in
    subst (Lists mode (said_from n (flat_map block_line bs)) 0 (not (nat_eq (length statuses) 0)))
    (stretches_covered 0 statuses) (blocks_are_read mode bs n (length statuses) tiles h)

-- a status line between comments, and block lines after them
text_is_read : (mode : Mode) (a b c d : List ℕ) (state : MapState) (listed : Bool) (statuses : List Status) → IsComment a → IsComment b → IsComment c
    → state.pos < 2 ^ 63 → 0 < state.pass → state.pass < 2 ^ 32 → ((n : ℕ) → Lists mode (said_from n d) 0 listed statuses)
    → AreMapLines mode (said_from 1 (a ++ (b ++ state_line state) ++ c ++ d)) state 0 listed statuses
text_is_read mode a b c d state listed statuses p q r hp some hq lists =
    let s : List ℕ = state_line state in
    let whole : a ++ (b ++ s) ++ c ++ d ≡ a ++ (b ++ (s ++ (c ++ d))) = simp append_assoc in
    let first = p.passed 1 (b ++ (s ++ (c ++ d))) in
    let second = q.passed first.0 (s ++ (c ++ d)) in
    let n : ℕ = second.0 in
    let third = r.passed (n + 1) d in
    let line : Line = record { number = n; fields = state_parts state } in
    let e : said_from 1 (a ++ (b ++ s) ++ c ++ d) ≡ line ∷ said_from third.0 d =
    ap (said_from 1) whole ∙ first.1 ∙ second.1 ∙ state_is_said state n (c ++ d) hp hq ∙ ap (λ ls. line ∷ ls) third.1 in
    subst (λ ls. AreMapLines mode ls state 0 listed statuses) (sym e) (state_is_read state n hp some hq, lists third.0)

pub printed_is_read : PrintedIsRead
printed_is_read heading state statuses mode start now pos some pass short = record {
  reads = subst (λ ls. AreMapLines mode ls state 0 (not (nat_eq (length statuses) 0)) statuses) (sym (said_is (printed heading state statuses)))
      (text_is_read mode (heading_text heading) (with_newline (codes "# current_pos  current_status  current_pass"))
      (with_newline (codes "#      pos        size  status"))
      (flat_map block_line (stretches statuses)) state (not (nat_eq (length statuses) 0)) statuses
      (heading_is_comment heading start now) state_columns_are_comment block_columns_are_comment pos some pass (λ n. statuses_are_read mode statuses n short));
}
