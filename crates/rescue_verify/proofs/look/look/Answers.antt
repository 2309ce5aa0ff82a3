-- What a look found, by what the input gave and what the image has.
use Rattle.std.proofs.Common.{◌≡◌, ◌-◌, ◌∙◌, ℕ, false, length, take, length-take-le, refl, rules, true}
use Rattle.rescue_verify.proofs.LookLemmas.{sees_read, sees_unread}
use Rattle.rescue_verify.proofs.look.look.Goals as goal

pub returns-then-count-given-clause-looks : goal.returns-then-count-given-clause-looks
returns-then-count-given-clause-looks g c =
    let size : ℕ = c.args.piece.to - c.args.piece.from in
    let long : length (take size c.args.given.now) ≡ size = length-take-le size c.args.given.now c.requires.given in
    let call = rw long at c.in-Ok.ensures.call in
    sees_unread c.args.piece.from c.args.piece.place size c.read_at.new.buf c.in-Ok.got
    (g.S.Source.state c.args.source.now) (g.S.Source.state c.read_at.new.self) (g.D.Site.state c.args.site.now)
    (c.read_at.auto.buf ∙ long) (search rules) (record { told = call.told; losses = call.kept }) call.right

pub returns-then-eq-clause-looks : goal.returns-then-eq-clause-looks
returns-then-eq-clause-looks g c =
    let size : ℕ = c.args.piece.to - c.args.piece.from in
    let long : length (take size c.args.given.now) ≡ size = length-take-le size c.args.given.now c.requires.given in
    let wide : length (take size c.args.there.now) ≡ size = length-take-le size c.args.there.now c.requires.there in
    let call = rw long at c.in-Ok.ensures.call in
    let seen = rw wide at c.in-Ok-image_read.ensures.call in
    sees_read c.args.piece.from c.args.piece.place size c.in-Ok-image_read.count c.read_at.new.buf
    c.image_read.new.buf c.in-Ok.got true _ (g.S.Source.state c.args.source.now) (g.S.Source.state c.read_at.new.self)
    (g.D.Site.state c.args.site.now) (g.D.Site.state c.image_read.new.self) (c.read_at.auto.buf ∙ long)
    (c.image_read.auto.buf ∙ wide) (search rules) (search rules) c.if-eq.ensures refl
    (record { told = call.told; losses = call.kept }) call.right (search rules) seen.kept
    c.in-Ok-image_read.ensures.read

pub returns-else-eq-clause-looks : goal.returns-else-eq-clause-looks
returns-else-eq-clause-looks g c =
    let size : ℕ = c.args.piece.to - c.args.piece.from in
    let long : length (take size c.args.given.now) ≡ size = length-take-le size c.args.given.now c.requires.given in
    let wide : length (take size c.args.there.now) ≡ size = length-take-le size c.args.there.now c.requires.there in
    let call = rw long at c.in-Ok.ensures.call in
    let seen = rw wide at c.in-Ok-image_read.ensures.call in
    sees_read c.args.piece.from c.args.piece.place size c.in-Ok-image_read.count c.read_at.new.buf
    c.image_read.new.buf c.in-Ok.got false _ (g.S.Source.state c.args.source.now) (g.S.Source.state c.read_at.new.self)
    (g.D.Site.state c.args.site.now) (g.D.Site.state c.image_read.new.self) (c.read_at.auto.buf ∙ long)
    (c.image_read.auto.buf ∙ wide) (search rules) (search rules) c.if-eq.ensures refl
    (record { told = call.told; losses = call.kept }) call.right (search rules) seen.kept
    c.in-Ok-image_read.ensures.read
