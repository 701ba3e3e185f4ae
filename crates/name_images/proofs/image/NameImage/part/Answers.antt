use Rattle.std.proofs.Common.{◌≡◌, ◌∙◌, arith, length, min, subst}
use Rattle.std.specs.Prelude.{◌-◌}
use Rattle.image_parts.specs.Parts.{KeepsPart}
use Rattle.name_store.specs.Table.{NameTable}
use Rattle.name_images.specs.Images.{name_image}
use Rattle.name_images.proofs.PartLemmas.{at-most, count-is, part-is}
use Rattle.name_images.proofs.image.NameImage.part.Goals as goal

pub returns-clause-count : goal.returns-clause-count
returns-clause-count c =
    let image = name_image c.args.self.now in
    let kept : KeepsPart c.args.at c.put_image-size.result image c.put_image-size.new.buf = subst (λ (t : NameTable). KeepsPart c.args.at c.put_image-size.result (name_image t) c.put_image-size.new.buf) c.self.view_is c.put_image-size.ensures.told in
    let size : c.put_image-size.result ≡ length image = kept.count ∙ count-is (length image) c.requires.few in
    c.lesser.ensures ∙ (λ i. min (c.put_image-size.ensures.length i) (size i - c.args.at))

pub returns-clause-bytes : goal.returns-clause-bytes
returns-clause-bytes c =
    let image = name_image c.args.self.now in
    let kept : KeepsPart c.args.at c.put_image-size.result image c.put_image-size.new.buf = subst (λ (t : NameTable). KeepsPart c.args.at c.put_image-size.result (name_image t) c.put_image-size.new.buf) c.self.view_is c.put_image-size.ensures.told in
    let size : c.put_image-size.result ≡ length image = kept.count ∙ count-is (length image) c.requires.few in
    let most = at-most (length c.put_image-size.new.buf) (length image - c.args.at) c.lesser.result (c.lesser.ensures ∙ (λ i. min (length c.put_image-size.new.buf) (size i - c.args.at))) in
    part-is c.args.at c.put_image-size.result c.lesser.result image c.put_image-size.new.buf kept c.requires.few most.0 (omega (arith, most.1, c.requires.at))
