use Rattle.std.proofs.Common.{ℕ, List, [], ◌∷◌, ◌++◌, ◌≡◌, ◌+◌, ◌≤◌, length, ◌∙◌, ap, arith, append_assoc, length-append}
use Rattle.std.specs.Int.{w64, to_be_bytes}
use Rattle.hk_base.specs.Disk.{piece, written}
use Rattle.frame_log.specs.Writes.{WritesOn}
use Rattle.frame_log.proofs.Goings.{one}
use Rattle.frame_log.proofs.Openings.{run_then}
use Rattle.frame_log.proofs.Writes.{apart_within, back, back_on, piece_long, piece_written, still, still_on, writes_one, writes_then, writes_whole, writes_within, written_long, written_next}
use Rattle.frame_log.proofs.compact.write_area.Goals as goal

pub write_image-requires-clause-place : goal.write_image-requires-clause-place
write_image-requires-clause-place g c tells_now =
    let tells = back c.write_at.ensures.call tells_now in
    let file = c.args.file in
    let at = c.args.at in
    let size = c.args.size in
    let R : List ℕ = (g.D.Disk.state c.args.disk.now).reads file in
    let R1 : List ℕ = (g.D.Disk.state c.write_at.new.self).reads file in
    let first : ℕ = g.I.Image.from c.args.image.now in
    let count : ℕ = g.I.Image.count c.args.image.now in
    let held : List ℕ = piece first count R in
    let img : List ℕ = g.I.Image.image c.args.image.now held in
    let long : size ≡ length img = c.requires.size held (piece_long first count R (c.requires.within tells)) in
    let place = c.requires.place tells in
    let head : List ℕ = to_be_bytes w64 (length img) in
    let bytes : c.to_be_bytes.result ≡ head = c.to_be_bytes.ensures ∙ ap (to_be_bytes w64) long in
    let tells1 = still c.write_at.ensures.call tells in
    let e1 : R1 ≡ written at head R = c.in_ok-write_at.ensures.written tells ∙ ap (λ (l : List ℕ). written at l R) bytes in
    let w1 : WritesOn file at (size + 9) (g.D.Disk.state c.args.disk.now) (g.D.Disk.state c.write_at.new.self) = writes_whole at c.to_be_bytes.result c.requires.file (omega arith) (omega (arith, ap length bytes)) place c.write_at.ensures.call (c.in_ok-write_at.ensures.written tells) c.write_at.ensures.crash in
    let place1 : at + 8 ≤ length R1 = omega (arith, written_long at head R place, ap length e1) in
    place1

pub write_image-requires-clause-within : goal.write_image-requires-clause-within
write_image-requires-clause-within g c tells_now =
    let tells = back c.write_at.ensures.call tells_now in
    let file = c.args.file in
    let at = c.args.at in
    let size = c.args.size in
    let R : List ℕ = (g.D.Disk.state c.args.disk.now).reads file in
    let R1 : List ℕ = (g.D.Disk.state c.write_at.new.self).reads file in
    let first : ℕ = g.I.Image.from c.args.image.now in
    let count : ℕ = g.I.Image.count c.args.image.now in
    let held : List ℕ = piece first count R in
    let img : List ℕ = g.I.Image.image c.args.image.now held in
    let long : size ≡ length img = c.requires.size held (piece_long first count R (c.requires.within tells)) in
    let place = c.requires.place tells in
    let head : List ℕ = to_be_bytes w64 (length img) in
    let bytes : c.to_be_bytes.result ≡ head = c.to_be_bytes.ensures ∙ ap (to_be_bytes w64) long in
    let tells1 = still c.write_at.ensures.call tells in
    let e1 : R1 ≡ written at head R = c.in_ok-write_at.ensures.written tells ∙ ap (λ (l : List ℕ). written at l R) bytes in
    let w1 : WritesOn file at (size + 9) (g.D.Disk.state c.args.disk.now) (g.D.Disk.state c.write_at.new.self) = writes_whole at c.to_be_bytes.result c.requires.file (omega arith) (omega (arith, ap length bytes)) place c.write_at.ensures.call (c.in_ok-write_at.ensures.written tells) c.write_at.ensures.crash in
    let place1 : at + 8 ≤ length R1 = omega (arith, written_long at head R place, ap length e1) in
    omega (arith, c.requires.within tells, w1.reads.no_shorter)

pub write_image-requires-clause-apart : goal.write_image-requires-clause-apart
write_image-requires-clause-apart g c tells_now =
    apart_within c.args.at (c.args.size + 9) (c.args.at + 8) c.args.size _ _ (omega arith) (omega arith) (c.requires.apart (back c.write_at.ensures.call tells_now))

pub write_at-requires-2-clause-place : goal.write_at-requires-2-clause-place
write_at-requires-2-clause-place g c tells_now =
    let tells = back c.write_at.ensures.call (back_on c.write_image.ensures.run tells_now) in
    let file = c.args.file in
    let at = c.args.at in
    let size = c.args.size in
    let R : List ℕ = (g.D.Disk.state c.args.disk.now).reads file in
    let R1 : List ℕ = (g.D.Disk.state c.write_at.new.self).reads file in
    let first : ℕ = g.I.Image.from c.args.image.now in
    let count : ℕ = g.I.Image.count c.args.image.now in
    let held : List ℕ = piece first count R in
    let img : List ℕ = g.I.Image.image c.args.image.now held in
    let long : size ≡ length img = c.requires.size held (piece_long first count R (c.requires.within tells)) in
    let place = c.requires.place tells in
    let head : List ℕ = to_be_bytes w64 (length img) in
    let bytes : c.to_be_bytes.result ≡ head = c.to_be_bytes.ensures ∙ ap (to_be_bytes w64) long in
    let tells1 = still c.write_at.ensures.call tells in
    let e1 : R1 ≡ written at head R = c.in_ok-write_at.ensures.written tells ∙ ap (λ (l : List ℕ). written at l R) bytes in
    let w1 : WritesOn file at (size + 9) (g.D.Disk.state c.args.disk.now) (g.D.Disk.state c.write_at.new.self) = writes_whole at c.to_be_bytes.result c.requires.file (omega arith) (omega (arith, ap length bytes)) place c.write_at.ensures.call (c.in_ok-write_at.ensures.written tells) c.write_at.ensures.crash in
    let place1 : at + 8 ≤ length R1 = omega (arith, written_long at head R place, ap length e1) in
    let R2 : List ℕ = (g.D.Disk.state c.write_image.new.disk).reads file in
    let tells2 = still_on c.write_image.ensures.run tells1 in
    let run2 = run_then (one c.write_at.ensures.call) c.write_image.ensures.run in
    let w2 : WritesOn file at (size + 9) (g.D.Disk.state c.args.disk.now) (g.D.Disk.state c.write_image.new.disk) = writes_then (one c.write_at.ensures.call) w1 c.write_image.ensures.run (writes_within (at + 8) size (omega arith) (omega arith) (c.write_image.ensures.writes tells1)) in
    let kept : piece first count R1 ≡ held = piece_written at first count head R R1 place (apart_within at (size + 9) at 8 first count (omega arith) (omega arith) (c.requires.apart tells)) e1 in
    let e2 : R2 ≡ written (at + 8) img R1 = c.in_ok-write_image.ensures.written tells1 ∙ ap (λ (l : List ℕ). written (at + 8) (g.I.Image.image c.args.image.now l) R1) kept in
    let place2 : at + 8 + size ≤ length R2 = omega (arith, written_long (at + 8) img R1 place1, ap length e2, long) in
    place2

pub returns-in_err-write_at-clause-writes : goal.returns-in_err-write_at-clause-writes
returns-in_err-write_at-clause-writes g c tells =
    let file = c.args.file in
    let at = c.args.at in
    let size = c.args.size in
    let R : List ℕ = (g.D.Disk.state c.args.disk.now).reads file in
    let R1 : List ℕ = (g.D.Disk.state c.write_at.new.self).reads file in
    let first : ℕ = g.I.Image.from c.args.image.now in
    let count : ℕ = g.I.Image.count c.args.image.now in
    let held : List ℕ = piece first count R in
    let img : List ℕ = g.I.Image.image c.args.image.now held in
    let long : size ≡ length img = c.requires.size held (piece_long first count R (c.requires.within tells)) in
    let place = c.requires.place tells in
    let head : List ℕ = to_be_bytes w64 (length img) in
    let bytes : c.to_be_bytes.result ≡ head = c.to_be_bytes.ensures ∙ ap (to_be_bytes w64) long in
    let tells1 = still c.write_at.ensures.call tells in
    writes_one at (length c.to_be_bytes.result) c.requires.file (omega arith) (omega (arith, ap length bytes)) c.write_at.ensures.call (c.in_err-write_at.ensures.torn tells) c.write_at.ensures.crash

pub returns-in_err-write_image-clause-writes : goal.returns-in_err-write_image-clause-writes
returns-in_err-write_image-clause-writes g c tells =
    let file = c.args.file in
    let at = c.args.at in
    let size = c.args.size in
    let R : List ℕ = (g.D.Disk.state c.args.disk.now).reads file in
    let R1 : List ℕ = (g.D.Disk.state c.write_at.new.self).reads file in
    let first : ℕ = g.I.Image.from c.args.image.now in
    let count : ℕ = g.I.Image.count c.args.image.now in
    let held : List ℕ = piece first count R in
    let img : List ℕ = g.I.Image.image c.args.image.now held in
    let long : size ≡ length img = c.requires.size held (piece_long first count R (c.requires.within tells)) in
    let place = c.requires.place tells in
    let head : List ℕ = to_be_bytes w64 (length img) in
    let bytes : c.to_be_bytes.result ≡ head = c.to_be_bytes.ensures ∙ ap (to_be_bytes w64) long in
    let tells1 = still c.write_at.ensures.call tells in
    let e1 : R1 ≡ written at head R = c.in_ok-write_at.ensures.written tells ∙ ap (λ (l : List ℕ). written at l R) bytes in
    let w1 : WritesOn file at (size + 9) (g.D.Disk.state c.args.disk.now) (g.D.Disk.state c.write_at.new.self) = writes_whole at c.to_be_bytes.result c.requires.file (omega arith) (omega (arith, ap length bytes)) place c.write_at.ensures.call (c.in_ok-write_at.ensures.written tells) c.write_at.ensures.crash in
    let place1 : at + 8 ≤ length R1 = omega (arith, written_long at head R place, ap length e1) in
    let R2 : List ℕ = (g.D.Disk.state c.write_image.new.disk).reads file in
    let tells2 = still_on c.write_image.ensures.run tells1 in
    let run2 = run_then (one c.write_at.ensures.call) c.write_image.ensures.run in
    let w2 : WritesOn file at (size + 9) (g.D.Disk.state c.args.disk.now) (g.D.Disk.state c.write_image.new.disk) = writes_then (one c.write_at.ensures.call) w1 c.write_image.ensures.run (writes_within (at + 8) size (omega arith) (omega arith) (c.write_image.ensures.writes tells1)) in
    w2

pub returns-in_err-write_at-2-clause-writes : goal.returns-in_err-write_at-2-clause-writes
returns-in_err-write_at-2-clause-writes g c tells =
    let file = c.args.file in
    let at = c.args.at in
    let size = c.args.size in
    let R : List ℕ = (g.D.Disk.state c.args.disk.now).reads file in
    let R1 : List ℕ = (g.D.Disk.state c.write_at.new.self).reads file in
    let first : ℕ = g.I.Image.from c.args.image.now in
    let count : ℕ = g.I.Image.count c.args.image.now in
    let held : List ℕ = piece first count R in
    let img : List ℕ = g.I.Image.image c.args.image.now held in
    let long : size ≡ length img = c.requires.size held (piece_long first count R (c.requires.within tells)) in
    let place = c.requires.place tells in
    let head : List ℕ = to_be_bytes w64 (length img) in
    let bytes : c.to_be_bytes.result ≡ head = c.to_be_bytes.ensures ∙ ap (to_be_bytes w64) long in
    let tells1 = still c.write_at.ensures.call tells in
    let e1 : R1 ≡ written at head R = c.in_ok-write_at.ensures.written tells ∙ ap (λ (l : List ℕ). written at l R) bytes in
    let w1 : WritesOn file at (size + 9) (g.D.Disk.state c.args.disk.now) (g.D.Disk.state c.write_at.new.self) = writes_whole at c.to_be_bytes.result c.requires.file (omega arith) (omega (arith, ap length bytes)) place c.write_at.ensures.call (c.in_ok-write_at.ensures.written tells) c.write_at.ensures.crash in
    let place1 : at + 8 ≤ length R1 = omega (arith, written_long at head R place, ap length e1) in
    let R2 : List ℕ = (g.D.Disk.state c.write_image.new.disk).reads file in
    let tells2 = still_on c.write_image.ensures.run tells1 in
    let run2 = run_then (one c.write_at.ensures.call) c.write_image.ensures.run in
    let w2 : WritesOn file at (size + 9) (g.D.Disk.state c.args.disk.now) (g.D.Disk.state c.write_image.new.disk) = writes_then (one c.write_at.ensures.call) w1 c.write_image.ensures.run (writes_within (at + 8) size (omega arith) (omega arith) (c.write_image.ensures.writes tells1)) in
    writes_then run2 w2 (one c.write_at-2.ensures.call) (writes_one (at + 8 + size) 1 c.requires.file (omega arith) (omega arith) c.write_at-2.ensures.call (c.in_err-write_at-2.ensures.torn tells2) c.write_at-2.ensures.crash)

pub returns-clause-writes : goal.returns-clause-writes
returns-clause-writes g c tells =
    let file = c.args.file in
    let at = c.args.at in
    let size = c.args.size in
    let R : List ℕ = (g.D.Disk.state c.args.disk.now).reads file in
    let R1 : List ℕ = (g.D.Disk.state c.write_at.new.self).reads file in
    let first : ℕ = g.I.Image.from c.args.image.now in
    let count : ℕ = g.I.Image.count c.args.image.now in
    let held : List ℕ = piece first count R in
    let img : List ℕ = g.I.Image.image c.args.image.now held in
    let long : size ≡ length img = c.requires.size held (piece_long first count R (c.requires.within tells)) in
    let place = c.requires.place tells in
    let head : List ℕ = to_be_bytes w64 (length img) in
    let bytes : c.to_be_bytes.result ≡ head = c.to_be_bytes.ensures ∙ ap (to_be_bytes w64) long in
    let tells1 = still c.write_at.ensures.call tells in
    let e1 : R1 ≡ written at head R = c.in_ok-write_at.ensures.written tells ∙ ap (λ (l : List ℕ). written at l R) bytes in
    let w1 : WritesOn file at (size + 9) (g.D.Disk.state c.args.disk.now) (g.D.Disk.state c.write_at.new.self) = writes_whole at c.to_be_bytes.result c.requires.file (omega arith) (omega (arith, ap length bytes)) place c.write_at.ensures.call (c.in_ok-write_at.ensures.written tells) c.write_at.ensures.crash in
    let place1 : at + 8 ≤ length R1 = omega (arith, written_long at head R place, ap length e1) in
    let R2 : List ℕ = (g.D.Disk.state c.write_image.new.disk).reads file in
    let tells2 = still_on c.write_image.ensures.run tells1 in
    let run2 = run_then (one c.write_at.ensures.call) c.write_image.ensures.run in
    let w2 : WritesOn file at (size + 9) (g.D.Disk.state c.args.disk.now) (g.D.Disk.state c.write_image.new.disk) = writes_then (one c.write_at.ensures.call) w1 c.write_image.ensures.run (writes_within (at + 8) size (omega arith) (omega arith) (c.write_image.ensures.writes tells1)) in
    let kept : piece first count R1 ≡ held = piece_written at first count head R R1 place (apart_within at (size + 9) at 8 first count (omega arith) (omega arith) (c.requires.apart tells)) e1 in
    let e2 : R2 ≡ written (at + 8) img R1 = c.in_ok-write_image.ensures.written tells1 ∙ ap (λ (l : List ℕ). written (at + 8) (g.I.Image.image c.args.image.now l) R1) kept in
    let place2 : at + 8 + size ≤ length R2 = omega (arith, written_long (at + 8) img R1 place1, ap length e2, long) in
    writes_then run2 w2 (one c.write_at-2.ensures.call) (writes_whole (at + 8 + size) (0 ∷ []) c.requires.file (omega arith) (omega arith) place2 c.write_at-2.ensures.call (c.in_ok-write_at-2.ensures.written tells2) c.write_at-2.ensures.crash)

pub returns-clause-written : goal.returns-clause-written
returns-clause-written g c tells =
    let file = c.args.file in
    let at = c.args.at in
    let size = c.args.size in
    let R : List ℕ = (g.D.Disk.state c.args.disk.now).reads file in
    let R1 : List ℕ = (g.D.Disk.state c.write_at.new.self).reads file in
    let first : ℕ = g.I.Image.from c.args.image.now in
    let count : ℕ = g.I.Image.count c.args.image.now in
    let held : List ℕ = piece first count R in
    let img : List ℕ = g.I.Image.image c.args.image.now held in
    let long : size ≡ length img = c.requires.size held (piece_long first count R (c.requires.within tells)) in
    let place = c.requires.place tells in
    let head : List ℕ = to_be_bytes w64 (length img) in
    let bytes : c.to_be_bytes.result ≡ head = c.to_be_bytes.ensures ∙ ap (to_be_bytes w64) long in
    let tells1 = still c.write_at.ensures.call tells in
    let e1 : R1 ≡ written at head R = c.in_ok-write_at.ensures.written tells ∙ ap (λ (l : List ℕ). written at l R) bytes in
    let w1 : WritesOn file at (size + 9) (g.D.Disk.state c.args.disk.now) (g.D.Disk.state c.write_at.new.self) = writes_whole at c.to_be_bytes.result c.requires.file (omega arith) (omega (arith, ap length bytes)) place c.write_at.ensures.call (c.in_ok-write_at.ensures.written tells) c.write_at.ensures.crash in
    let place1 : at + 8 ≤ length R1 = omega (arith, written_long at head R place, ap length e1) in
    let R2 : List ℕ = (g.D.Disk.state c.write_image.new.disk).reads file in
    let tells2 = still_on c.write_image.ensures.run tells1 in
    let run2 = run_then (one c.write_at.ensures.call) c.write_image.ensures.run in
    let w2 : WritesOn file at (size + 9) (g.D.Disk.state c.args.disk.now) (g.D.Disk.state c.write_image.new.disk) = writes_then (one c.write_at.ensures.call) w1 c.write_image.ensures.run (writes_within (at + 8) size (omega arith) (omega arith) (c.write_image.ensures.writes tells1)) in
    let kept : piece first count R1 ≡ held = piece_written at first count head R R1 place (apart_within at (size + 9) at 8 first count (omega arith) (omega arith) (c.requires.apart tells)) e1 in
    let e2 : R2 ≡ written (at + 8) img R1 = c.in_ok-write_image.ensures.written tells1 ∙ ap (λ (l : List ℕ). written (at + 8) (g.I.Image.image c.args.image.now l) R1) kept in
    let place2 : at + 8 + size ≤ length R2 = omega (arith, written_long (at + 8) img R1 place1, ap length e2, long) in
    let e12 : R2 ≡ written at (head ++ img) R = written_next at (at + 8) head img R R1 R2 place (omega arith) e1 e2 in
    written_next at (at + 8 + size) (head ++ img) (0 ∷ []) R R2 ((g.D.Disk.state c.write_at-2.new.self).reads file) place (omega (arith, length-append head img, long)) e12 (c.in_ok-write_at-2.ensures.written tells2)
    ∙ ap (λ (l : List ℕ). written at l R) (append_assoc head img (0 ∷ []))
