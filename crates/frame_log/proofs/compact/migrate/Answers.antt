use Rattle.std.proofs.Common.{ℕ, List, [], ◌∷◌, ◌++◌, ◌≡◌, ◌+◌, ◌<◌, ◌^◌, length, refl, ◌∙◌, ap, subst, arith}
use Rattle.hk_base.specs.Disk.{piece, written}
use Rattle.hk_base.proofs.Runs.{compose, weaker}
use Rattle.frame_log.specs.Format.{behind, front, frames}
use Rattle.frame_log.specs.FormatTwo.{moved}
use Rattle.frame_log.specs.Bases.{area_base}
use Rattle.frame_log.specs.Compacts.{ShutAt, area_bytes, first_area, first_head}
use Rattle.frame_log.proofs.Migrations.{area_is, area_named, begun, migrating, shut_on, shut_place, staged_file, stands_then, turned}
use Rattle.frame_log.proofs.Reading.{front_long}
use Rattle.frame_log.proofs.Writes.{back_on, piece_long, still_on}
use Rattle.frame_log.proofs.compact.migrate.Goals as goal

pub stage_area-requires-clause-place : goal.stage_area-requires-clause-place
stage_area-requires-clause-place g c tells =
    let was = c.requires.stands tells in
    shut_place (front c.args.file was.0) c.args.file c.args.end (g.D.Disk.state c.args.disk.now) was.2

pub put_synced-requires-clause-place : goal.put_synced-requires-clause-place
put_synced-requires-clause-place g c tells1 =
    let tells = back_on c.stage_area.ensures.run tells1 in
    let was = c.requires.stands tells in
    let F : List ℕ = front c.args.file was.0 in
    let inside = shut_place F c.args.file c.args.end (g.D.Disk.state c.stage_area.new.disk) (shut_on F c.args.file c.args.end _ (g.D.Disk.state c.args.disk.now) (g.D.Disk.state c.stage_area.new.disk) was.2 (c.stage_area.ensures.writes tells)) in
    omega (arith, inside)

pub turn_gate-requires-clause-place : goal.turn_gate-requires-clause-place
turn_gate-requires-clause-place g c tells2 =
    let tells1 = back_on c.put_synced.ensures.run tells2 in
    let tells = back_on c.stage_area.ensures.run tells1 in
    let was = c.requires.stands tells in
    let F : List ℕ = front c.args.file was.0 in
    let S1 = g.D.Disk.state c.stage_area.new.disk in
    let S2 = g.D.Disk.state c.put_synced.new.disk in
    let shut1 = shut_on F c.args.file c.args.end _ (g.D.Disk.state c.args.disk.now) S1 was.2 (c.stage_area.ensures.writes tells) in
    shut_place F c.args.file c.args.end S2 (shut_on F c.args.file c.args.end _ S1 S2 shut1 (c.put_synced.ensures.writes tells1))

pub turn_gate-requires-clause-synced : goal.turn_gate-requires-clause-synced
turn_gate-requires-clause-synced g c tells2 = c.in_ok-put_synced.ensures.synced (back_on c.put_synced.ensures.run tells2)

pub returns-in_err-stage_area-clause-any_moment : goal.returns-in_err-stage_area-clause-any_moment
returns-in_err-stage_area-clause-any_moment g c tells payloads own shut =
    let file = c.args.file in
    let end = c.args.end in
    let S0 = g.D.Disk.state c.args.disk.now in
    let F : List ℕ = front file payloads in
    let R : List ℕ = S0.reads file in
    let held : List ℕ = piece (g.I.Image.from c.args.image.now) (g.I.Image.count c.args.image.now) R in
    let img : List ℕ = g.I.Image.image c.args.image.now held in
    let inside : end < length R = shut_place F file end S0 shut in
    let long : c.args.size ≡ length img = c.requires.size held (piece_long (g.I.Image.from c.args.image.now) (g.I.Image.count c.args.image.now) R (omega (arith, c.requires.before tells, inside))) in
    let small : length img < 2 ^ 64 = omega (arith, long, c.requires.small) in
    let near : end + 49 < 2 ^ 64 = omega (arith, c.requires.limit) in
    let go1 = begun file payloads img end shut.place _ S0 _ shut c.stage_area.ensures.run (c.stage_area.ensures.writes tells) in
    weaker (migrating file payloads img end shut.place own near small) go1.moments

pub returns-in_err-put_synced-clause-any_moment : goal.returns-in_err-put_synced-clause-any_moment
returns-in_err-put_synced-clause-any_moment g c tells payloads own shut =
    let file = c.args.file in
    let end = c.args.end in
    let S0 = g.D.Disk.state c.args.disk.now in
    let F : List ℕ = front file payloads in
    let R : List ℕ = S0.reads file in
    let held : List ℕ = piece (g.I.Image.from c.args.image.now) (g.I.Image.count c.args.image.now) R in
    let img : List ℕ = g.I.Image.image c.args.image.now held in
    let inside : end < length R = shut_place F file end S0 shut in
    let long : c.args.size ≡ length img = c.requires.size held (piece_long (g.I.Image.from c.args.image.now) (g.I.Image.count c.args.image.now) R (omega (arith, c.requires.before tells, inside))) in
    let small : length img < 2 ^ 64 = omega (arith, long, c.requires.small) in
    let near : end + 49 < 2 ^ 64 = omega (arith, c.requires.limit) in
    let go1 = begun file payloads img end shut.place _ S0 _ shut c.stage_area.ensures.run (c.stage_area.ensures.writes tells) in
    let S1 = g.D.Disk.state c.stage_area.new.disk in
    let tells1 = still_on c.stage_area.ensures.run tells in
    let shut1 = shut_on F file end _ S0 S1 shut (c.stage_area.ensures.writes tells) in
    let go2 = compose go1 (begun file payloads img end shut.place _ S1 _ shut1 c.put_synced.ensures.run (c.put_synced.ensures.writes tells1)) (λ b h. h) in
    weaker (migrating file payloads img end shut.place own near small) go2.moments

pub returns-in_err-turn_gate-clause-any_moment : goal.returns-in_err-turn_gate-clause-any_moment
returns-in_err-turn_gate-clause-any_moment g c tells payloads own shut =
    let file = c.args.file in
    let end = c.args.end in
    let S0 = g.D.Disk.state c.args.disk.now in
    let F : List ℕ = front file payloads in
    let R : List ℕ = S0.reads file in
    let held : List ℕ = piece (g.I.Image.from c.args.image.now) (g.I.Image.count c.args.image.now) R in
    let img : List ℕ = g.I.Image.image c.args.image.now held in
    let inside : end < length R = shut_place F file end S0 shut in
    let long : c.args.size ≡ length img = c.requires.size held (piece_long (g.I.Image.from c.args.image.now) (g.I.Image.count c.args.image.now) R (omega (arith, c.requires.before tells, inside))) in
    let small : length img < 2 ^ 64 = omega (arith, long, c.requires.small) in
    let near : end + 49 < 2 ^ 64 = omega (arith, c.requires.limit) in
    let go1 = begun file payloads img end shut.place _ S0 _ shut c.stage_area.ensures.run (c.stage_area.ensures.writes tells) in
    let S1 = g.D.Disk.state c.stage_area.new.disk in
    let tells1 = still_on c.stage_area.ensures.run tells in
    let shut1 = shut_on F file end _ S0 S1 shut (c.stage_area.ensures.writes tells) in
    let go2 = compose go1 (begun file payloads img end shut.place _ S1 _ shut1 c.put_synced.ensures.run (c.put_synced.ensures.writes tells1)) (λ b h. h) in
    let S2 = g.D.Disk.state c.put_synced.new.disk in
    let S3 = g.D.Disk.state c.turn_gate.new.disk in
    let tells2 = still_on c.put_synced.ensures.run tells1 in
    let first : S1.reads file ≡ written (end + 1) (first_head (end + 49) ++ area_bytes img) (F ++ 0 ∷ shut.reads.0) =
    c.in_ok-stage_area.ensures.written tells ∙ ap (λ (l : List ℕ). written (end + 1) (first_head (end + 49) ++ area_bytes img) l) shut.reads.1 in
    let second : S2.reads file ≡ written (end + 1) (behind (moved (end + 15)) ++ 0 ∷ []) (S1.reads file) =
    c.in_ok-put_synced.ensures.written tells1 ∙ ap (λ (l : List ℕ). written (end + 1) l (S1.reads file)) c.moved_frame.ensures in
    let ready = staged_file file payloads img end shut.place shut.reads.0 (S1.reads file) (S2.reads file) first second in
    let go3 = compose go2 (turned file payloads img end shut.place ready.0 S2 S3 ready.1 c.turn_gate.ensures.run (c.turn_gate.ensures.moments tells2)) (λ b h. h) in
    weaker (migrating file payloads img end shut.place own near small) go3.moments

pub returns-clause-any_moment : goal.returns-clause-any_moment
returns-clause-any_moment g c tells payloads own shut =
    let file = c.args.file in
    let end = c.args.end in
    let S0 = g.D.Disk.state c.args.disk.now in
    let F : List ℕ = front file payloads in
    let R : List ℕ = S0.reads file in
    let held : List ℕ = piece (g.I.Image.from c.args.image.now) (g.I.Image.count c.args.image.now) R in
    let img : List ℕ = g.I.Image.image c.args.image.now held in
    let inside : end < length R = shut_place F file end S0 shut in
    let long : c.args.size ≡ length img = c.requires.size held (piece_long (g.I.Image.from c.args.image.now) (g.I.Image.count c.args.image.now) R (omega (arith, c.requires.before tells, inside))) in
    let small : length img < 2 ^ 64 = omega (arith, long, c.requires.small) in
    let near : end + 49 < 2 ^ 64 = omega (arith, c.requires.limit) in
    let go1 = begun file payloads img end shut.place _ S0 _ shut c.stage_area.ensures.run (c.stage_area.ensures.writes tells) in
    let S1 = g.D.Disk.state c.stage_area.new.disk in
    let tells1 = still_on c.stage_area.ensures.run tells in
    let shut1 = shut_on F file end _ S0 S1 shut (c.stage_area.ensures.writes tells) in
    let go2 = compose go1 (begun file payloads img end shut.place _ S1 _ shut1 c.put_synced.ensures.run (c.put_synced.ensures.writes tells1)) (λ b h. h) in
    let S2 = g.D.Disk.state c.put_synced.new.disk in
    let S3 = g.D.Disk.state c.turn_gate.new.disk in
    let tells2 = still_on c.put_synced.ensures.run tells1 in
    let first : S1.reads file ≡ written (end + 1) (first_head (end + 49) ++ area_bytes img) (F ++ 0 ∷ shut.reads.0) =
    c.in_ok-stage_area.ensures.written tells ∙ ap (λ (l : List ℕ). written (end + 1) (first_head (end + 49) ++ area_bytes img) l) shut.reads.1 in
    let second : S2.reads file ≡ written (end + 1) (behind (moved (end + 15)) ++ 0 ∷ []) (S1.reads file) =
    c.in_ok-put_synced.ensures.written tells1 ∙ ap (λ (l : List ℕ). written (end + 1) l (S1.reads file)) c.moved_frame.ensures in
    let ready = staged_file file payloads img end shut.place shut.reads.0 (S1.reads file) (S2.reads file) first second in
    let go3 = compose go2 (turned file payloads img end shut.place ready.0 S2 S3 ready.1 c.turn_gate.ensures.run (c.turn_gate.ensures.moments tells2)) (λ b h. h) in
    weaker (migrating file payloads img end shut.place own near small) go3.moments

pub returns-clause-moved : goal.returns-clause-moved
returns-clause-moved g c tells payloads own shut =
    let file = c.args.file in
    let end = c.args.end in
    let S0 = g.D.Disk.state c.args.disk.now in
    let F : List ℕ = front file payloads in
    let R : List ℕ = S0.reads file in
    let held : List ℕ = piece (g.I.Image.from c.args.image.now) (g.I.Image.count c.args.image.now) R in
    let img : List ℕ = g.I.Image.image c.args.image.now held in
    let inside : end < length R = shut_place F file end S0 shut in
    let long : c.args.size ≡ length img = c.requires.size held (piece_long (g.I.Image.from c.args.image.now) (g.I.Image.count c.args.image.now) R (omega (arith, c.requires.before tells, inside))) in
    let small : length img < 2 ^ 64 = omega (arith, long, c.requires.small) in
    let near : end + 49 < 2 ^ 64 = omega (arith, c.requires.limit) in
    let go1 = begun file payloads img end shut.place _ S0 _ shut c.stage_area.ensures.run (c.stage_area.ensures.writes tells) in
    let S1 = g.D.Disk.state c.stage_area.new.disk in
    let tells1 = still_on c.stage_area.ensures.run tells in
    let shut1 = shut_on F file end _ S0 S1 shut (c.stage_area.ensures.writes tells) in
    let go2 = compose go1 (begun file payloads img end shut.place _ S1 _ shut1 c.put_synced.ensures.run (c.put_synced.ensures.writes tells1)) (λ b h. h) in
    let S2 = g.D.Disk.state c.put_synced.new.disk in
    let S3 = g.D.Disk.state c.turn_gate.new.disk in
    let tells2 = still_on c.put_synced.ensures.run tells1 in
    let first : S1.reads file ≡ written (end + 1) (first_head (end + 49) ++ area_bytes img) (F ++ 0 ∷ shut.reads.0) =
    c.in_ok-stage_area.ensures.written tells ∙ ap (λ (l : List ℕ). written (end + 1) (first_head (end + 49) ++ area_bytes img) l) shut.reads.1 in
    let second : S2.reads file ≡ written (end + 1) (behind (moved (end + 15)) ++ 0 ∷ []) (S1.reads file) =
    c.in_ok-put_synced.ensures.written tells1 ∙ ap (λ (l : List ℕ). written (end + 1) l (S1.reads file)) c.moved_frame.ensures in
    let ready = staged_file file payloads img end shut.place shut.reads.0 (S1.reads file) (S2.reads file) first second in
    let from : end ≡ 8 + length (frames payloads) = shut.place ∙ front_long file payloads in
    let near_area : 8 + length (frames payloads) + 49 < 2 ^ 64 = omega (arith, near, from) in
    let stands = stands_then file payloads img end shut.place ready.0 S2 S3 ready.1 (c.in_ok-turn_gate.ensures.turned tells2) (c.in_ok-turn_gate.ensures.synced tells2) in
    let ends : end + 57 + length img ≡ end + 49 + 8 + c.args.size = omega (arith, long) in (
      first_area payloads img,
      area_is payloads img near_area small own,
      area_named payloads img near_area small _ end from refl refl refl refl,
      refl,
      subst (λ (k : ℕ). ShutAt (area_base file (first_area payloads img)) file k S3) ends stands,
    )
