use Rattle.std.proofs.Common.{◌≡◌, ℕ, ◌+◌, ◌≤◌, length, take, drop, ap, arith, ◌∙◌}
use Rattle.block_list.specs.declared.block.Block.{Block}
use Rattle.std.proofs.lemmas.List.{take_all, length-set}
use Rattle.block_pages.specs.declared.page.Page.TheInside.{Inside}
use Rattle.block_pages.proofs.PageLemmas.{page_size}
use Rattle.block_pages.proofs.SpliceLemmas.{none_over, block_over, written, new_short, overwritten}
use Rattle.block_pages.proofs.page.Page.overwrite.Goals as goal
use Rattle.block_pages.proofs.page.Page.overwrite.Goals.{then-from-i, else-from-i}

pub loop-i-init : goal.loop-i-init
loop-i-init c = none_over c.self.inside c.args.from c.self.invariant

pub offset_bounds-deref_mut-from : goal.offset_bounds-deref_mut-from
offset_bounds-deref_mut-from c =
    omega (arith, c.requires.within, page_size _ _ c.self.view_is c.self.invariant, c.self.invariant.fits)

pub bounds-deref_mut-from : goal.bounds-deref_mut-from
bounds-deref_mut-from c =
    rw c.deref_mut.ensures.value
    (omega (arith, c.requires.within, page_size _ _ c.self.view_is c.self.invariant, c.loop-i.invariant.fits))

pub bounds-deref_mut-from-in-loop-i : goal.bounds-deref_mut-from-in-loop-i
bounds-deref_mut-from-in-loop-i c =
    rw c.deref_mut-in-loop-i.ensures.value
    (omega (
      arith,
      c.requires.within,
      page_size _ _ c.self.view_is c.self.invariant,
      c.loop-i.invariant.fits,
      c.loop-i.invariant.alike,
    ))

pub overflow_add-from-in-loop-i-3 : goal.overflow_add-from-in-loop-i-3
overflow_add-from-in-loop-i-3 c =
    omega (arith, c.requires.within, page_size _ _ c.self.view_is c.self.invariant, c.self.invariant.fits)

pub overflow_add-self : goal.overflow_add-self
overflow_add-self c =
    let k : ℕ = c.args.from + length c.args.new.now in
    omega (
      arith,
      new_short (take c.args.from c.args.self.now) c.args.new.now (drop k c.args.self.now) c.loop-i.i
          c.block-block.result c.requires.row c.block-block.ensures,
    )

pub loop-i-preserved : goal.loop-i-preserved
loop-i-preserved c =
    let p : Inside = c.self.inside in
    let q : Inside = c.loop-i.self-inside in
    let b : Block = c.block-block.result in
    let k : ℕ = c.args.from + c.loop-i.i in
    let within : c.args.from + length c.args.new.now ≤ length p.starts.items =
    omega (arith, c.requires.within, page_size _ _ c.self.view_is c.self.invariant) in
    let starts = written q.starts.items c.deref_mut.result.now k b.pos c.deref_mut.ensures.value in
    let statuses = written q.statuses.items c.deref_mut-in-loop-i.result.now k (record { status = b.status })
    c.deref_mut-in-loop-i.ensures.value in
    let len : c.len.result ≡ length p.starts.items =
    c.len.ensures.value ∙ ap length starts ∙ length-set q.starts.items k b.pos ∙ c.loop-i.invariant.fits in
    elim c.if-from-i.branch [
      | then-from-i w ↦ block_over p q _ c.args.from c.loop-i.i c.args.new.now b c.self.invariant within
          c.block-block.ensures c.loop-i.invariant
          (ap (λ (r : Inside). r.starts.items) w.self-inside-is ∙ starts)
          (ap (λ (r : Inside). r.statuses.items) w.self-inside-is ∙ statuses)
          (λ l. absurd (omega (arith, len, w.if-from-i.true)))
          (λ _. ap (λ (r : Inside). r.end) w.self-inside-is)
      | else-from-i w ↦ block_over p q _ c.args.from c.loop-i.i c.args.new.now b c.self.invariant within
          c.block-block.ensures c.loop-i.invariant
          (ap (λ (r : Inside). r.starts.items) w.self-inside-is ∙ starts)
          (ap (λ (r : Inside). r.statuses.items) w.self-inside-is ∙ statuses)
          (λ _. ap (λ (r : Inside). r.end) w.self-inside-is)
          (λ l. absurd (w.if-from-i.false (omega (arith, len, within))))
    ]

pub returns : goal.returns
returns c =
    let all : take c.loop-i.i c.args.new.now ≡ c.args.new.now = take_all c.loop-i.i c.args.new.now (omega arith) in
    overwritten c.self.inside c.loop-i.self-inside c.args.self.now c.args.new.now c.args.from c.self.view_is
    c.self.invariant c.requires.within c.requires.row (rw all at c.loop-i.invariant)
