use Rattle.std.proofs.Common.{◌≡◌, ◌+◌, ◌≤◌, length, sym, subst}
use Rattle.image_parts.specs.Parts.{KeepsPart}
use Rattle.key_rows.specs.Image.{key_image}
use Rattle.key_index.specs.Sound.{IsSoundIndex}
use Rattle.key_images.specs.Sizes.{rows_len}
use Rattle.key_images.specs.Sources.{AreIn, KeySource, bytes_of, table_by}
use Rattle.key_images.proofs.Spelled.{part_is, wider}
use Rattle.key_images.proofs.image.KeyImageImage.part.Goals as goal

pub put_image-requires : goal.put_image-requires
put_image-requires g c =
    let file = (g.D.Disk.state c.args.disk.now).reads 0 in record {
      within = λ telling. wider c.self.inside.from c.self.inside.count (length file) c.self.inside.index.now.index.rows (subst (λ (s : KeySource). s.from + s.count ≤ length file) (sym c.self.view_is) (c.requires.within telling)) c.self.invariant;
    }

pub returns-clause-part : goal.returns-clause-part
returns-clause-part g c telling held range past =
    let s : KeySource = c.args.self.now in
    let file = (g.D.Disk.state c.args.disk.now).reads 0 in
    let within = subst (λ (s : KeySource). AreIn s.from s.count s.index) c.self.view_is c.self.invariant in
    let sound = subst (λ (s : KeySource). IsSoundIndex s.index) c.self.view_is c.image_size-size.ensures.sound in
    let size = subst (λ (s : KeySource). c.image_size-size.result ≡ 16 + rows_len s.index.rows) c.self.view_is c.image_size-size.ensures.size in
    let told = subst (λ (s : KeySource). KeepsPart c.args.at c.in_ok-put_image.field-0 (key_image (table_by (bytes_of file) s.index)) c.put_image.new.buf) c.self.view_is (c.in_ok-put_image.ensures.told telling) in
    part_is s.from s.count c.args.at c.image_size-size.result c.in_ok-put_image.field-0 _ file c.put_image.new.buf s.index
    sound within (c.requires.within telling) size c.image_size-size.type_inv told c.kept.ensures.part held range
