use Rattle.std.proofs.Common.{ℕ, List, ◌≡◌, ◌+◌, ◌≤◌, length, sym, ◌∙◌, ap, arith, inl}
use Rattle.hk_base.specs.Disk.{piece, written}
use Rattle.frame_log.specs.Compacts.{area_bytes, first_head}
use Rattle.frame_log.specs.Writes.{WritesOn}
use Rattle.frame_log.proofs.Goings.{one}
use Rattle.frame_log.proofs.Openings.{run_then}
use Rattle.frame_log.proofs.Writes.{back, piece_written, still, still_on, writes_one, writes_sync, writes_then, writes_whole, writes_within, written_long, written_next}
use Rattle.frame_log.proofs.compact.stage_area.Goals as goal

pub write_area-requires-clause-place : goal.write_area-requires-clause-place
write_area-requires-clause-place g c tells_now =
    let tells = back c.write_at.ensures.call tells_now in
    let file = c.args.file in
    let end = c.args.end in
    let size = c.args.size in
    let R : List ℕ = (g.D.Disk.state c.args.disk.now).reads file in
    let R1 : List ℕ = (g.D.Disk.state c.write_at.new.self).reads file in
    let first : ℕ = g.I.Image.from c.args.image.now in
    let count : ℕ = g.I.Image.count c.args.image.now in
    let before = c.requires.before tells in
    let inside = c.requires.place tells in
    let place : end + 1 ≤ length R = omega (arith, inside) in
    let head : List ℕ = first_head (end + 49) in
    let bytes : c.head_of.result ≡ head = c.head_of.ensures in
    let tells1 = still c.write_at.ensures.call tells in
    let e1 : R1 ≡ written (end + 1) head R = c.in_ok-write_at.ensures.written tells ∙ ap (λ (l : List ℕ). written (end + 1) l R) bytes in
    let w1 : WritesOn file (end + 1) (size + 57) (g.D.Disk.state c.args.disk.now) (g.D.Disk.state c.write_at.new.self) = writes_whole (end + 1) c.head_of.result c.requires.file (omega arith) (omega (arith, ap length bytes)) place c.write_at.ensures.call (c.in_ok-write_at.ensures.written tells) c.write_at.ensures.crash in
    let place1 : end + 49 ≤ length R1 = omega (arith, written_long (end + 1) head R place, ap length e1) in
    place1

pub write_area-requires-clause-within : goal.write_area-requires-clause-within
write_area-requires-clause-within g c tells_now =
    let tells = back c.write_at.ensures.call tells_now in
    let file = c.args.file in
    let end = c.args.end in
    let size = c.args.size in
    let R : List ℕ = (g.D.Disk.state c.args.disk.now).reads file in
    let R1 : List ℕ = (g.D.Disk.state c.write_at.new.self).reads file in
    let first : ℕ = g.I.Image.from c.args.image.now in
    let count : ℕ = g.I.Image.count c.args.image.now in
    let before = c.requires.before tells in
    let inside = c.requires.place tells in
    let place : end + 1 ≤ length R = omega (arith, inside) in
    let head : List ℕ = first_head (end + 49) in
    let bytes : c.head_of.result ≡ head = c.head_of.ensures in
    let tells1 = still c.write_at.ensures.call tells in
    let e1 : R1 ≡ written (end + 1) head R = c.in_ok-write_at.ensures.written tells ∙ ap (λ (l : List ℕ). written (end + 1) l R) bytes in
    let w1 : WritesOn file (end + 1) (size + 57) (g.D.Disk.state c.args.disk.now) (g.D.Disk.state c.write_at.new.self) = writes_whole (end + 1) c.head_of.result c.requires.file (omega arith) (omega (arith, ap length bytes)) place c.write_at.ensures.call (c.in_ok-write_at.ensures.written tells) c.write_at.ensures.crash in
    let place1 : end + 49 ≤ length R1 = omega (arith, written_long (end + 1) head R place, ap length e1) in
    omega (arith, before, place1)

pub write_area-requires-clause-apart : goal.write_area-requires-clause-apart
write_area-requires-clause-apart g c tells_now = inl (omega (arith, c.requires.before (back c.write_at.ensures.call tells_now)))

pub returns-in_err-write_at-clause-writes : goal.returns-in_err-write_at-clause-writes
returns-in_err-write_at-clause-writes g c tells =
    let file = c.args.file in
    let end = c.args.end in
    let size = c.args.size in
    let R : List ℕ = (g.D.Disk.state c.args.disk.now).reads file in
    let R1 : List ℕ = (g.D.Disk.state c.write_at.new.self).reads file in
    let first : ℕ = g.I.Image.from c.args.image.now in
    let count : ℕ = g.I.Image.count c.args.image.now in
    let before = c.requires.before tells in
    let inside = c.requires.place tells in
    let place : end + 1 ≤ length R = omega (arith, inside) in
    let head : List ℕ = first_head (end + 49) in
    let bytes : c.head_of.result ≡ head = c.head_of.ensures in
    let tells1 = still c.write_at.ensures.call tells in
    writes_one (end + 1) (length c.head_of.result) c.requires.file (omega arith) (omega (arith, ap length bytes)) c.write_at.ensures.call (c.in_err-write_at.ensures.torn tells) c.write_at.ensures.crash

pub returns-in_err-write_area-clause-writes : goal.returns-in_err-write_area-clause-writes
returns-in_err-write_area-clause-writes g c tells =
    let file = c.args.file in
    let end = c.args.end in
    let size = c.args.size in
    let R : List ℕ = (g.D.Disk.state c.args.disk.now).reads file in
    let R1 : List ℕ = (g.D.Disk.state c.write_at.new.self).reads file in
    let first : ℕ = g.I.Image.from c.args.image.now in
    let count : ℕ = g.I.Image.count c.args.image.now in
    let before = c.requires.before tells in
    let inside = c.requires.place tells in
    let place : end + 1 ≤ length R = omega (arith, inside) in
    let head : List ℕ = first_head (end + 49) in
    let bytes : c.head_of.result ≡ head = c.head_of.ensures in
    let tells1 = still c.write_at.ensures.call tells in
    let e1 : R1 ≡ written (end + 1) head R = c.in_ok-write_at.ensures.written tells ∙ ap (λ (l : List ℕ). written (end + 1) l R) bytes in
    let w1 : WritesOn file (end + 1) (size + 57) (g.D.Disk.state c.args.disk.now) (g.D.Disk.state c.write_at.new.self) = writes_whole (end + 1) c.head_of.result c.requires.file (omega arith) (omega (arith, ap length bytes)) place c.write_at.ensures.call (c.in_ok-write_at.ensures.written tells) c.write_at.ensures.crash in
    let place1 : end + 49 ≤ length R1 = omega (arith, written_long (end + 1) head R place, ap length e1) in
    let tells2 = still_on c.write_area.ensures.run tells1 in
    let run2 = run_then (one c.write_at.ensures.call) c.write_area.ensures.run in
    let w2 : WritesOn file (end + 1) (size + 57) (g.D.Disk.state c.args.disk.now) (g.D.Disk.state c.write_area.new.disk) = writes_then (one c.write_at.ensures.call) w1 c.write_area.ensures.run (writes_within (end + 49) (size + 9) (omega arith) (omega arith) (c.write_area.ensures.writes tells1)) in
    w2

pub returns-in_err-sync-clause-writes : goal.returns-in_err-sync-clause-writes
returns-in_err-sync-clause-writes g c tells =
    let file = c.args.file in
    let end = c.args.end in
    let size = c.args.size in
    let R : List ℕ = (g.D.Disk.state c.args.disk.now).reads file in
    let R1 : List ℕ = (g.D.Disk.state c.write_at.new.self).reads file in
    let first : ℕ = g.I.Image.from c.args.image.now in
    let count : ℕ = g.I.Image.count c.args.image.now in
    let before = c.requires.before tells in
    let inside = c.requires.place tells in
    let place : end + 1 ≤ length R = omega (arith, inside) in
    let head : List ℕ = first_head (end + 49) in
    let bytes : c.head_of.result ≡ head = c.head_of.ensures in
    let tells1 = still c.write_at.ensures.call tells in
    let e1 : R1 ≡ written (end + 1) head R = c.in_ok-write_at.ensures.written tells ∙ ap (λ (l : List ℕ). written (end + 1) l R) bytes in
    let w1 : WritesOn file (end + 1) (size + 57) (g.D.Disk.state c.args.disk.now) (g.D.Disk.state c.write_at.new.self) = writes_whole (end + 1) c.head_of.result c.requires.file (omega arith) (omega (arith, ap length bytes)) place c.write_at.ensures.call (c.in_ok-write_at.ensures.written tells) c.write_at.ensures.crash in
    let place1 : end + 49 ≤ length R1 = omega (arith, written_long (end + 1) head R place, ap length e1) in
    let tells2 = still_on c.write_area.ensures.run tells1 in
    let run2 = run_then (one c.write_at.ensures.call) c.write_area.ensures.run in
    let w2 : WritesOn file (end + 1) (size + 57) (g.D.Disk.state c.args.disk.now) (g.D.Disk.state c.write_area.new.disk) = writes_then (one c.write_at.ensures.call) w1 c.write_area.ensures.run (writes_within (end + 49) (size + 9) (omega arith) (omega arith) (c.write_area.ensures.writes tells1)) in
    writes_then run2 w2 (one c.sync.ensures.call) (writes_sync c.requires.file tells2 c.sync.ensures.same c.sync.ensures.call)

pub returns-clause-writes : goal.returns-clause-writes
returns-clause-writes g c tells =
    let file = c.args.file in
    let end = c.args.end in
    let size = c.args.size in
    let R : List ℕ = (g.D.Disk.state c.args.disk.now).reads file in
    let R1 : List ℕ = (g.D.Disk.state c.write_at.new.self).reads file in
    let first : ℕ = g.I.Image.from c.args.image.now in
    let count : ℕ = g.I.Image.count c.args.image.now in
    let before = c.requires.before tells in
    let inside = c.requires.place tells in
    let place : end + 1 ≤ length R = omega (arith, inside) in
    let head : List ℕ = first_head (end + 49) in
    let bytes : c.head_of.result ≡ head = c.head_of.ensures in
    let tells1 = still c.write_at.ensures.call tells in
    let e1 : R1 ≡ written (end + 1) head R = c.in_ok-write_at.ensures.written tells ∙ ap (λ (l : List ℕ). written (end + 1) l R) bytes in
    let w1 : WritesOn file (end + 1) (size + 57) (g.D.Disk.state c.args.disk.now) (g.D.Disk.state c.write_at.new.self) = writes_whole (end + 1) c.head_of.result c.requires.file (omega arith) (omega (arith, ap length bytes)) place c.write_at.ensures.call (c.in_ok-write_at.ensures.written tells) c.write_at.ensures.crash in
    let place1 : end + 49 ≤ length R1 = omega (arith, written_long (end + 1) head R place, ap length e1) in
    let tells2 = still_on c.write_area.ensures.run tells1 in
    let run2 = run_then (one c.write_at.ensures.call) c.write_area.ensures.run in
    let w2 : WritesOn file (end + 1) (size + 57) (g.D.Disk.state c.args.disk.now) (g.D.Disk.state c.write_area.new.disk) = writes_then (one c.write_at.ensures.call) w1 c.write_area.ensures.run (writes_within (end + 49) (size + 9) (omega arith) (omega arith) (c.write_area.ensures.writes tells1)) in
    writes_then run2 w2 (one c.sync.ensures.call) (writes_sync c.requires.file tells2 c.sync.ensures.same c.sync.ensures.call)

pub returns-clause-synced : goal.returns-clause-synced
returns-clause-synced g c tells =
    let tells2 = still_on c.write_area.ensures.run (still c.write_at.ensures.call tells) in
    λ b h. c.in_ok-sync.ensures.durable tells2 b h ∙ sym (c.sync.ensures.same.reads tells2)

pub returns-clause-written : goal.returns-clause-written
returns-clause-written g c tells =
    let file = c.args.file in
    let end = c.args.end in
    let size = c.args.size in
    let R : List ℕ = (g.D.Disk.state c.args.disk.now).reads file in
    let R1 : List ℕ = (g.D.Disk.state c.write_at.new.self).reads file in
    let first : ℕ = g.I.Image.from c.args.image.now in
    let count : ℕ = g.I.Image.count c.args.image.now in
    let before = c.requires.before tells in
    let inside = c.requires.place tells in
    let place : end + 1 ≤ length R = omega (arith, inside) in
    let head : List ℕ = first_head (end + 49) in
    let bytes : c.head_of.result ≡ head = c.head_of.ensures in
    let tells1 = still c.write_at.ensures.call tells in
    let e1 : R1 ≡ written (end + 1) head R = c.in_ok-write_at.ensures.written tells ∙ ap (λ (l : List ℕ). written (end + 1) l R) bytes in
    let w1 : WritesOn file (end + 1) (size + 57) (g.D.Disk.state c.args.disk.now) (g.D.Disk.state c.write_at.new.self) = writes_whole (end + 1) c.head_of.result c.requires.file (omega arith) (omega (arith, ap length bytes)) place c.write_at.ensures.call (c.in_ok-write_at.ensures.written tells) c.write_at.ensures.crash in
    let place1 : end + 49 ≤ length R1 = omega (arith, written_long (end + 1) head R place, ap length e1) in
    let tells2 = still_on c.write_area.ensures.run tells1 in
    let run2 = run_then (one c.write_at.ensures.call) c.write_area.ensures.run in
    let w2 : WritesOn file (end + 1) (size + 57) (g.D.Disk.state c.args.disk.now) (g.D.Disk.state c.write_area.new.disk) = writes_then (one c.write_at.ensures.call) w1 c.write_area.ensures.run (writes_within (end + 49) (size + 9) (omega arith) (omega arith) (c.write_area.ensures.writes tells1)) in
    let held : List ℕ = piece first count R in
    let img : List ℕ = g.I.Image.image c.args.image.now held in
    let R2 : List ℕ = (g.D.Disk.state c.write_area.new.disk).reads file in
    let kept : piece first count R1 ≡ held = piece_written (end + 1) first count head R R1 place (inl (omega (arith, before))) e1 in
    let e2 : R2 ≡ written (end + 49) (area_bytes img) R1 = c.in_ok-write_area.ensures.written tells1 ∙ ap (λ (l : List ℕ). written (end + 49) (area_bytes (g.I.Image.image c.args.image.now l)) R1) kept in
    c.sync.ensures.same.reads tells2
    ∙ written_next (end + 1) (end + 49) head (area_bytes img) R R1 R2 place (omega arith) e1 e2
