use Rattle.std.proofs.Common.{ℕ, Bool, not, List, ◌∷◌, ◌++◌, ◌≡◌, ◌+◌, ◌<◌, ◌^◌, length, set, Some, refl, sym, ◌∙◌, ap, subst, arith, length-set}
use Rattle.std.specs.Int.{w64, to_be_bytes}
use Rattle.hk_base.specs.Disk.{LeavesOnly, piece, written}
use Rattle.hk_base.proofs.Runs.{compose}
use Rattle.frame_log.specs.Format.{frames}
use Rattle.frame_log.specs.FormatTwo.{Always, holding, next_turn}
use Rattle.frame_log.specs.Bases.{Area, area_base, area_start, front_on}
use Rattle.frame_log.specs.Compacts.{IsBetween, ShutAt, other_at}
use Rattle.frame_log.proofs.Keepings.{behind_both}
use Rattle.frame_log.proofs.Migrations.{shut_place}
use Rattle.frame_log.proofs.Moves.{MayLie, apart_in, both_area, both_numbers, gates_are, go_area, go_close, go_numbers, go_open, image_of, leaves_area, may_lie, next_numbers, now_bytes, now_names, now_on, now_shut, now_whole, opened, other_near, place_in, present_of, turning}
use Rattle.frame_log.proofs.Openings.{run_then}
use Rattle.frame_log.proofs.Turnings.{end_at, ordered}
use Rattle.frame_log.proofs.Writes.{back_on, piece_long, still_on}
use Rattle.frame_log.proofs.compact.move_on.Goals as goal

pub write_area-requires-clause-place : goal.write_area-requires-clause-place
write_area-requires-clause-place g c tells =
    let was = c.requires.stands tells in
    let area : Area = was.0 in
    let payloads : List (List ℕ) = was.1 in
    let whole = was.2 in
    let names = was.3 in
    let fits = was.4 in
    let shut = was.5 in
    let file = c.args.file in
    let end = c.args.end in
    let size = c.args.size in
    let now = c.args.now in
    let order : Bool = now.second in
    let place : ℕ = c.place_for-place.result in
    let S0 = g.D.Disk.state c.args.disk.now in
    let R : List ℕ = S0.reads file in
    let h = present_of file now area payloads whole names fits (omega arith) in
    let on : List ℕ = h.0 in
    let numbers : List ℕ = h.1 in
    let same = h.2 in
    let turn_is = h.3 in
    let p = h.4 in
    let present : Area = ordered order area.old area.end (1 ∷ on) (0 ∷ numbers) area.gap area.image in
    let shut_present : ShutAt (front_on (area_base file present) payloads) file end S0 = subst (λ a. ShutAt (front_on (area_base file a) payloads) file end S0) same shut in
    let lies = may_lie file now area payloads end place size whole names shut.place c.place_for-place.ensures.before c.place_for-place.ensures.behind in
    let long_front : end ≡ behind_both area.old + length area.gap + 8 + length area.image + length (frames payloads) = omega (arith, shut.place, end_at file area payloads whole.is.first whole.is.second) in
    let inside : end < length R = shut_place (front_on (area_base file area) payloads) file end S0 shut in
    omega (arith, place_in place (behind_both area.old) (length area.gap) (length area.image) (length (frames payloads)) end size lies long_front, inside)

pub write_area-requires-clause-within : goal.write_area-requires-clause-within
write_area-requires-clause-within g c tells =
    let was = c.requires.stands tells in
    let area : Area = was.0 in
    let payloads : List (List ℕ) = was.1 in
    let whole = was.2 in
    let names = was.3 in
    let fits = was.4 in
    let shut = was.5 in
    omega (arith, c.requires.before tells, shut_place (front_on (area_base c.args.file area) payloads) c.args.file c.args.end (g.D.Disk.state c.args.disk.now) shut)

pub write_area-requires-clause-apart : goal.write_area-requires-clause-apart
write_area-requires-clause-apart g c tells =
    let was = c.requires.stands tells in
    let area : Area = was.0 in
    let payloads : List (List ℕ) = was.1 in
    let whole = was.2 in
    let names = was.3 in
    let fits = was.4 in
    let shut = was.5 in
    let file = c.args.file in
    let end = c.args.end in
    let size = c.args.size in
    let now = c.args.now in
    let order : Bool = now.second in
    let place : ℕ = c.place_for-place.result in
    let S0 = g.D.Disk.state c.args.disk.now in
    let R : List ℕ = S0.reads file in
    let h = present_of file now area payloads whole names fits (omega arith) in
    let on : List ℕ = h.0 in
    let numbers : List ℕ = h.1 in
    let same = h.2 in
    let turn_is = h.3 in
    let p = h.4 in
    let present : Area = ordered order area.old area.end (1 ∷ on) (0 ∷ numbers) area.gap area.image in
    let shut_present : ShutAt (front_on (area_base file present) payloads) file end S0 = subst (λ a. ShutAt (front_on (area_base file a) payloads) file end S0) same shut in
    let lies = may_lie file now area payloads end place size whole names shut.place c.place_for-place.ensures.before c.place_for-place.ensures.behind in
    let long_front : end ≡ behind_both area.old + length area.gap + 8 + length area.image + length (frames payloads) = omega (arith, shut.place, end_at file area payloads whole.is.first whole.is.second) in
    let inside : end < length R = shut_place (front_on (area_base file area) payloads) file end S0 shut in
    apart_in place (behind_both area.old) (length area.gap) (length area.image) (length (frames payloads)) end size now.place _ _ lies long_front names.place (c.requires.behind tells) (c.requires.before tells)

pub put_synced-requires-clause-place : goal.put_synced-requires-clause-place
put_synced-requires-clause-place g c tells1 =
    let tells = back_on c.write_area.ensures.run tells1 in
    let was = c.requires.stands tells in
    let area : Area = was.0 in
    let payloads : List (List ℕ) = was.1 in
    let whole = was.2 in
    let names = was.3 in
    let fits = was.4 in
    let shut = was.5 in
    let file = c.args.file in
    let end = c.args.end in
    let size = c.args.size in
    let now = c.args.now in
    let order : Bool = now.second in
    let place : ℕ = c.place_for-place.result in
    let S0 = g.D.Disk.state c.args.disk.now in
    let R : List ℕ = S0.reads file in
    let h = present_of file now area payloads whole names fits (omega arith) in
    let on : List ℕ = h.0 in
    let numbers : List ℕ = h.1 in
    let same = h.2 in
    let turn_is = h.3 in
    let p = h.4 in
    let present : Area = ordered order area.old area.end (1 ∷ on) (0 ∷ numbers) area.gap area.image in
    let shut_present : ShutAt (front_on (area_base file present) payloads) file end S0 = subst (λ a. ShutAt (front_on (area_base file a) payloads) file end S0) same shut in
    let lies = may_lie file now area payloads end place size whole names shut.place c.place_for-place.ensures.before c.place_for-place.ensures.behind in
    let long_front : end ≡ behind_both area.old + length area.gap + 8 + length area.image + length (frames payloads) = omega (arith, shut.place, end_at file area payloads whole.is.first whole.is.second) in
    let inside : end < length R = shut_place (front_on (area_base file area) payloads) file end S0 shut in
    let writes1 = c.write_area.ensures.writes tells in
    let other_is : c.other_gate-other.result ≡ other_at order (8 + length (frames area.old) + 15) = c.other_gate-other.ensures ∙ ap (other_at order) names.selectors in
    let this_is : c.this_gate-this.result ≡ other_at (not order) (8 + length (frames area.old) + 15) = c.this_gate-this.ensures ∙ ap (other_at (not order)) names.selectors in
    omega (arith, other_is, other_near order (8 + length (frames area.old) + 15), long_front, inside, writes1.reads.no_shorter)

pub turn_gate-requires-clause-place : goal.turn_gate-requires-clause-place
turn_gate-requires-clause-place g c tells2 =
    let tells1 = back_on c.put_synced.ensures.run tells2 in
    let tells = back_on c.write_area.ensures.run tells1 in
    let was = c.requires.stands tells in
    let area : Area = was.0 in
    let payloads : List (List ℕ) = was.1 in
    let whole = was.2 in
    let names = was.3 in
    let fits = was.4 in
    let shut = was.5 in
    let file = c.args.file in
    let end = c.args.end in
    let size = c.args.size in
    let now = c.args.now in
    let order : Bool = now.second in
    let place : ℕ = c.place_for-place.result in
    let S0 = g.D.Disk.state c.args.disk.now in
    let R : List ℕ = S0.reads file in
    let h = present_of file now area payloads whole names fits (omega arith) in
    let on : List ℕ = h.0 in
    let numbers : List ℕ = h.1 in
    let same = h.2 in
    let turn_is = h.3 in
    let p = h.4 in
    let present : Area = ordered order area.old area.end (1 ∷ on) (0 ∷ numbers) area.gap area.image in
    let shut_present : ShutAt (front_on (area_base file present) payloads) file end S0 = subst (λ a. ShutAt (front_on (area_base file a) payloads) file end S0) same shut in
    let lies = may_lie file now area payloads end place size whole names shut.place c.place_for-place.ensures.before c.place_for-place.ensures.behind in
    let long_front : end ≡ behind_both area.old + length area.gap + 8 + length area.image + length (frames payloads) = omega (arith, shut.place, end_at file area payloads whole.is.first whole.is.second) in
    let inside : end < length R = shut_place (front_on (area_base file area) payloads) file end S0 shut in
    let writes1 = c.write_area.ensures.writes tells in
    let other_is : c.other_gate-other.result ≡ other_at order (8 + length (frames area.old) + 15) = c.other_gate-other.ensures ∙ ap (other_at order) names.selectors in
    let this_is : c.this_gate-this.result ≡ other_at (not order) (8 + length (frames area.old) + 15) = c.this_gate-this.ensures ∙ ap (other_at (not order)) names.selectors in
    omega (arith, other_is, other_near order (8 + length (frames area.old) + 15), long_front, inside, writes1.reads.no_shorter, (c.put_synced.ensures.writes tells1).reads.no_shorter)

pub turn_gate-requires-clause-synced : goal.turn_gate-requires-clause-synced
turn_gate-requires-clause-synced g c tells2 = c.in_ok-put_synced.ensures.synced (back_on c.put_synced.ensures.run tells2)

pub turn_gate-requires-2-clause-place : goal.turn_gate-requires-2-clause-place
turn_gate-requires-2-clause-place g c tells3 =
    let tells2 = back_on c.turn_gate.ensures.run tells3 in
    let tells1 = back_on c.put_synced.ensures.run tells2 in
    let tells = back_on c.write_area.ensures.run tells1 in
    let was = c.requires.stands tells in
    let area : Area = was.0 in
    let payloads : List (List ℕ) = was.1 in
    let whole = was.2 in
    let names = was.3 in
    let fits = was.4 in
    let shut = was.5 in
    let file = c.args.file in
    let end = c.args.end in
    let size = c.args.size in
    let now = c.args.now in
    let order : Bool = now.second in
    let place : ℕ = c.place_for-place.result in
    let S0 = g.D.Disk.state c.args.disk.now in
    let R : List ℕ = S0.reads file in
    let h = present_of file now area payloads whole names fits (omega arith) in
    let on : List ℕ = h.0 in
    let numbers : List ℕ = h.1 in
    let same = h.2 in
    let turn_is = h.3 in
    let p = h.4 in
    let present : Area = ordered order area.old area.end (1 ∷ on) (0 ∷ numbers) area.gap area.image in
    let shut_present : ShutAt (front_on (area_base file present) payloads) file end S0 = subst (λ a. ShutAt (front_on (area_base file a) payloads) file end S0) same shut in
    let lies = may_lie file now area payloads end place size whole names shut.place c.place_for-place.ensures.before c.place_for-place.ensures.behind in
    let long_front : end ≡ behind_both area.old + length area.gap + 8 + length area.image + length (frames payloads) = omega (arith, shut.place, end_at file area payloads whole.is.first whole.is.second) in
    let inside : end < length R = shut_place (front_on (area_base file area) payloads) file end S0 shut in
    let writes1 = c.write_area.ensures.writes tells in
    let other_is : c.other_gate-other.result ≡ other_at order (8 + length (frames area.old) + 15) = c.other_gate-other.ensures ∙ ap (other_at order) names.selectors in
    let this_is : c.this_gate-this.result ≡ other_at (not order) (8 + length (frames area.old) + 15) = c.this_gate-this.ensures ∙ ap (other_at (not order)) names.selectors in
    let S2 = g.D.Disk.state c.put_synced.new.disk in
    omega (arith, this_is, other_near (not order) (8 + length (frames area.old) + 15), long_front, inside, writes1.reads.no_shorter, (c.put_synced.ensures.writes tells1).reads.no_shorter, ap length (c.in_ok-turn_gate.ensures.turned tells2), length-set (S2.reads file) c.other_gate-other.result 1)

pub turn_gate-requires-2-clause-synced : goal.turn_gate-requires-2-clause-synced
turn_gate-requires-2-clause-synced g c tells3 = c.in_ok-turn_gate.ensures.synced (back_on c.turn_gate.ensures.run tells3)

pub returns-in_err-write_area-clause-any_moment : goal.returns-in_err-write_area-clause-any_moment
returns-in_err-write_area-clause-any_moment g c tells area payloads whole names fits shut =
    let file = c.args.file in
    let end = c.args.end in
    let size = c.args.size in
    let now = c.args.now in
    let order : Bool = now.second in
    let place : ℕ = c.place_for-place.result in
    let S0 = g.D.Disk.state c.args.disk.now in
    let R : List ℕ = S0.reads file in
    let h = present_of file now area payloads whole names fits (omega arith) in
    let on : List ℕ = h.0 in
    let numbers : List ℕ = h.1 in
    let same = h.2 in
    let turn_is = h.3 in
    let p = h.4 in
    let present : Area = ordered order area.old area.end (1 ∷ on) (0 ∷ numbers) area.gap area.image in
    let shut_present : ShutAt (front_on (area_base file present) payloads) file end S0 = subst (λ a. ShutAt (front_on (area_base file a) payloads) file end S0) same shut in
    let lies = may_lie file now area payloads end place size whole names shut.place c.place_for-place.ensures.before c.place_for-place.ensures.behind in
    let long_front : end ≡ behind_both area.old + length area.gap + 8 + length area.image + length (frames payloads) = omega (arith, shut.place, end_at file area payloads whole.is.first whole.is.second) in
    let inside : end < length R = shut_place (front_on (area_base file area) payloads) file end S0 shut in
    let first : ℕ = g.I.Image.from c.args.image.now in
    let count : ℕ = g.I.Image.count c.args.image.now in
    let held : List ℕ = piece first count R in
    let img : List ℕ = g.I.Image.image c.args.image.now held in
    let long : size ≡ length img = c.requires.size held (piece_long first count R (omega (arith, c.requires.before tells, inside))) in
    let small : length img < 2 ^ 64 = omega (arith, long, c.requires.small) in
    let near : place < 2 ^ 64 = omega (arith, c.place_for-place.ensures.limit) in
    let S1 = g.D.Disk.state c.write_area.new.disk in
    let go1 = go_area file order area.old area.end on numbers area.gap area.image payloads p img place size end S0 S1 lies shut_present c.write_area.ensures.run (c.write_area.ensures.writes tells) in
    subst (λ a. LeavesOnly file S0 S1 (Always file (IsBetween (holding (Some (area_start a)) payloads) img))) (sym same) go1.moments

pub returns-in_err-put_synced-clause-any_moment : goal.returns-in_err-put_synced-clause-any_moment
returns-in_err-put_synced-clause-any_moment g c tells area payloads whole names fits shut =
    let file = c.args.file in
    let end = c.args.end in
    let size = c.args.size in
    let now = c.args.now in
    let order : Bool = now.second in
    let place : ℕ = c.place_for-place.result in
    let S0 = g.D.Disk.state c.args.disk.now in
    let R : List ℕ = S0.reads file in
    let h = present_of file now area payloads whole names fits (omega arith) in
    let on : List ℕ = h.0 in
    let numbers : List ℕ = h.1 in
    let same = h.2 in
    let turn_is = h.3 in
    let p = h.4 in
    let present : Area = ordered order area.old area.end (1 ∷ on) (0 ∷ numbers) area.gap area.image in
    let shut_present : ShutAt (front_on (area_base file present) payloads) file end S0 = subst (λ a. ShutAt (front_on (area_base file a) payloads) file end S0) same shut in
    let lies = may_lie file now area payloads end place size whole names shut.place c.place_for-place.ensures.before c.place_for-place.ensures.behind in
    let long_front : end ≡ behind_both area.old + length area.gap + 8 + length area.image + length (frames payloads) = omega (arith, shut.place, end_at file area payloads whole.is.first whole.is.second) in
    let inside : end < length R = shut_place (front_on (area_base file area) payloads) file end S0 shut in
    let first : ℕ = g.I.Image.from c.args.image.now in
    let count : ℕ = g.I.Image.count c.args.image.now in
    let held : List ℕ = piece first count R in
    let img : List ℕ = g.I.Image.image c.args.image.now held in
    let long : size ≡ length img = c.requires.size held (piece_long first count R (omega (arith, c.requires.before tells, inside))) in
    let small : length img < 2 ^ 64 = omega (arith, long, c.requires.small) in
    let near : place < 2 ^ 64 = omega (arith, c.place_for-place.ensures.limit) in
    let S1 = g.D.Disk.state c.write_area.new.disk in
    let go1 = go_area file order area.old area.end on numbers area.gap area.image payloads p img place size end S0 S1 lies shut_present c.write_area.ensures.run (c.write_area.ensures.writes tells) in
    let writes1 = c.write_area.ensures.writes tells in
    let other_is : c.other_gate-other.result ≡ other_at order (8 + length (frames area.old) + 15) = c.other_gate-other.ensures ∙ ap (other_at order) names.selectors in
    let this_is : c.this_gate-this.result ≡ other_at (not order) (8 + length (frames area.old) + 15) = c.this_gate-this.ensures ∙ ap (other_at (not order)) names.selectors in
    let tells1 = still_on c.write_area.ensures.run tells in
    let S2 = g.D.Disk.state c.put_synced.new.disk in
    let numbers_are : c.numbers_of.result ≡ next_numbers file order area.old area.end on numbers area.gap area.image payloads p place =
    c.numbers_of.ensures ∙ ap (λ (k : ℕ). to_be_bytes w64 k ++ to_be_bytes w64 place) (c.turn_after-turn.ensures ∙ ap next_turn (sym turn_is)) in
    let at_numbers : c.other_gate-other.result + 1 ≡ other_at order (8 + length (frames area.old) + 15) + 1 = ap (λ (k : ℕ). k + 1) other_is in
    let kept1 = leaves_area file order area.old area.end on numbers area.gap area.image payloads p place size end S0 S1 lies shut_present (c.write_area.ensures.writes tells) in
    let go2 = compose go1 (go_numbers file order area.old area.end on numbers area.gap area.image payloads p img (c.other_gate-other.result + 1) (length c.numbers_of.result) S1 S2 at_numbers (ap length numbers_are) kept1 c.put_synced.ensures.run (c.put_synced.ensures.writes tells1)) (λ b k. k) in
    subst (λ a. LeavesOnly file S0 S2 (Always file (IsBetween (holding (Some (area_start a)) payloads) img))) (sym same) go2.moments

pub returns-in_err-turn_gate-clause-any_moment : goal.returns-in_err-turn_gate-clause-any_moment
returns-in_err-turn_gate-clause-any_moment g c tells area payloads whole names fits shut =
    let file = c.args.file in
    let end = c.args.end in
    let size = c.args.size in
    let now = c.args.now in
    let order : Bool = now.second in
    let place : ℕ = c.place_for-place.result in
    let S0 = g.D.Disk.state c.args.disk.now in
    let R : List ℕ = S0.reads file in
    let h = present_of file now area payloads whole names fits (omega arith) in
    let on : List ℕ = h.0 in
    let numbers : List ℕ = h.1 in
    let same = h.2 in
    let turn_is = h.3 in
    let p = h.4 in
    let present : Area = ordered order area.old area.end (1 ∷ on) (0 ∷ numbers) area.gap area.image in
    let shut_present : ShutAt (front_on (area_base file present) payloads) file end S0 = subst (λ a. ShutAt (front_on (area_base file a) payloads) file end S0) same shut in
    let lies = may_lie file now area payloads end place size whole names shut.place c.place_for-place.ensures.before c.place_for-place.ensures.behind in
    let long_front : end ≡ behind_both area.old + length area.gap + 8 + length area.image + length (frames payloads) = omega (arith, shut.place, end_at file area payloads whole.is.first whole.is.second) in
    let inside : end < length R = shut_place (front_on (area_base file area) payloads) file end S0 shut in
    let first : ℕ = g.I.Image.from c.args.image.now in
    let count : ℕ = g.I.Image.count c.args.image.now in
    let held : List ℕ = piece first count R in
    let img : List ℕ = g.I.Image.image c.args.image.now held in
    let long : size ≡ length img = c.requires.size held (piece_long first count R (omega (arith, c.requires.before tells, inside))) in
    let small : length img < 2 ^ 64 = omega (arith, long, c.requires.small) in
    let near : place < 2 ^ 64 = omega (arith, c.place_for-place.ensures.limit) in
    let S1 = g.D.Disk.state c.write_area.new.disk in
    let go1 = go_area file order area.old area.end on numbers area.gap area.image payloads p img place size end S0 S1 lies shut_present c.write_area.ensures.run (c.write_area.ensures.writes tells) in
    let writes1 = c.write_area.ensures.writes tells in
    let other_is : c.other_gate-other.result ≡ other_at order (8 + length (frames area.old) + 15) = c.other_gate-other.ensures ∙ ap (other_at order) names.selectors in
    let this_is : c.this_gate-this.result ≡ other_at (not order) (8 + length (frames area.old) + 15) = c.this_gate-this.ensures ∙ ap (other_at (not order)) names.selectors in
    let tells1 = still_on c.write_area.ensures.run tells in
    let S2 = g.D.Disk.state c.put_synced.new.disk in
    let numbers_are : c.numbers_of.result ≡ next_numbers file order area.old area.end on numbers area.gap area.image payloads p place =
    c.numbers_of.ensures ∙ ap (λ (k : ℕ). to_be_bytes w64 k ++ to_be_bytes w64 place) (c.turn_after-turn.ensures ∙ ap next_turn (sym turn_is)) in
    let at_numbers : c.other_gate-other.result + 1 ≡ other_at order (8 + length (frames area.old) + 15) + 1 = ap (λ (k : ℕ). k + 1) other_is in
    let kept1 = leaves_area file order area.old area.end on numbers area.gap area.image payloads p place size end S0 S1 lies shut_present (c.write_area.ensures.writes tells) in
    let go2 = compose go1 (go_numbers file order area.old area.end on numbers area.gap area.image payloads p img (c.other_gate-other.result + 1) (length c.numbers_of.result) S1 S2 at_numbers (ap length numbers_are) kept1 c.put_synced.ensures.run (c.put_synced.ensures.writes tells1)) (λ b k. k) in
    let tells2 = still_on c.put_synced.ensures.run tells1 in
    let S3 = g.D.Disk.state c.turn_gate.new.disk in
    let lies_long = subst (λ (k : ℕ). MayLie file order area.old area.end on numbers area.gap area.image payloads p place k) long lies in
    let both1 = both_area file order area.old area.end on numbers area.gap area.image payloads p place img R (S1.reads file) lies_long shut_present.reads (c.in_ok-write_area.ensures.written tells) in
    let second : S2.reads file ≡ written (c.other_gate-other.result + 1) (next_numbers file order area.old area.end on numbers area.gap area.image payloads p place) (S1.reads file) =
    c.in_ok-put_synced.ensures.written tells1 ∙ ap (λ (l : List ℕ). written (c.other_gate-other.result + 1) l (S1.reads file)) numbers_are in
    let both2 = both_numbers file order area.old area.end on numbers area.gap area.image payloads p place (c.other_gate-other.result + 1) img (next_numbers file order area.old area.end on numbers area.gap area.image payloads p place) (S1.reads file) (S2.reads file) refl at_numbers both1 second in
    let turned_other = subst (λ (k : ℕ). LeavesOnly file S2 S3 (λ x. (h : ℕ) × (x ≡ set (S2.reads file) k h))) other_is (c.turn_gate.ensures.moments tells2) in
    let go3 = compose go2 (go_open file order area.old area.end on numbers area.gap area.image payloads p place img (S2.reads file) near small both2 S2 S3 refl c.turn_gate.ensures.run turned_other) (λ b k. k) in
    subst (λ a. LeavesOnly file S0 S3 (Always file (IsBetween (holding (Some (area_start a)) payloads) img))) (sym same) go3.moments

pub returns-in_err-turn_gate-2-clause-any_moment : goal.returns-in_err-turn_gate-2-clause-any_moment
returns-in_err-turn_gate-2-clause-any_moment g c tells area payloads whole names fits shut =
    let file = c.args.file in
    let end = c.args.end in
    let size = c.args.size in
    let now = c.args.now in
    let order : Bool = now.second in
    let place : ℕ = c.place_for-place.result in
    let S0 = g.D.Disk.state c.args.disk.now in
    let R : List ℕ = S0.reads file in
    let h = present_of file now area payloads whole names fits (omega arith) in
    let on : List ℕ = h.0 in
    let numbers : List ℕ = h.1 in
    let same = h.2 in
    let turn_is = h.3 in
    let p = h.4 in
    let present : Area = ordered order area.old area.end (1 ∷ on) (0 ∷ numbers) area.gap area.image in
    let shut_present : ShutAt (front_on (area_base file present) payloads) file end S0 = subst (λ a. ShutAt (front_on (area_base file a) payloads) file end S0) same shut in
    let lies = may_lie file now area payloads end place size whole names shut.place c.place_for-place.ensures.before c.place_for-place.ensures.behind in
    let long_front : end ≡ behind_both area.old + length area.gap + 8 + length area.image + length (frames payloads) = omega (arith, shut.place, end_at file area payloads whole.is.first whole.is.second) in
    let inside : end < length R = shut_place (front_on (area_base file area) payloads) file end S0 shut in
    let first : ℕ = g.I.Image.from c.args.image.now in
    let count : ℕ = g.I.Image.count c.args.image.now in
    let held : List ℕ = piece first count R in
    let img : List ℕ = g.I.Image.image c.args.image.now held in
    let long : size ≡ length img = c.requires.size held (piece_long first count R (omega (arith, c.requires.before tells, inside))) in
    let small : length img < 2 ^ 64 = omega (arith, long, c.requires.small) in
    let near : place < 2 ^ 64 = omega (arith, c.place_for-place.ensures.limit) in
    let S1 = g.D.Disk.state c.write_area.new.disk in
    let go1 = go_area file order area.old area.end on numbers area.gap area.image payloads p img place size end S0 S1 lies shut_present c.write_area.ensures.run (c.write_area.ensures.writes tells) in
    let writes1 = c.write_area.ensures.writes tells in
    let other_is : c.other_gate-other.result ≡ other_at order (8 + length (frames area.old) + 15) = c.other_gate-other.ensures ∙ ap (other_at order) names.selectors in
    let this_is : c.this_gate-this.result ≡ other_at (not order) (8 + length (frames area.old) + 15) = c.this_gate-this.ensures ∙ ap (other_at (not order)) names.selectors in
    let tells1 = still_on c.write_area.ensures.run tells in
    let S2 = g.D.Disk.state c.put_synced.new.disk in
    let numbers_are : c.numbers_of.result ≡ next_numbers file order area.old area.end on numbers area.gap area.image payloads p place =
    c.numbers_of.ensures ∙ ap (λ (k : ℕ). to_be_bytes w64 k ++ to_be_bytes w64 place) (c.turn_after-turn.ensures ∙ ap next_turn (sym turn_is)) in
    let at_numbers : c.other_gate-other.result + 1 ≡ other_at order (8 + length (frames area.old) + 15) + 1 = ap (λ (k : ℕ). k + 1) other_is in
    let kept1 = leaves_area file order area.old area.end on numbers area.gap area.image payloads p place size end S0 S1 lies shut_present (c.write_area.ensures.writes tells) in
    let go2 = compose go1 (go_numbers file order area.old area.end on numbers area.gap area.image payloads p img (c.other_gate-other.result + 1) (length c.numbers_of.result) S1 S2 at_numbers (ap length numbers_are) kept1 c.put_synced.ensures.run (c.put_synced.ensures.writes tells1)) (λ b k. k) in
    let tells2 = still_on c.put_synced.ensures.run tells1 in
    let S3 = g.D.Disk.state c.turn_gate.new.disk in
    let lies_long = subst (λ (k : ℕ). MayLie file order area.old area.end on numbers area.gap area.image payloads p place k) long lies in
    let both1 = both_area file order area.old area.end on numbers area.gap area.image payloads p place img R (S1.reads file) lies_long shut_present.reads (c.in_ok-write_area.ensures.written tells) in
    let second : S2.reads file ≡ written (c.other_gate-other.result + 1) (next_numbers file order area.old area.end on numbers area.gap area.image payloads p place) (S1.reads file) =
    c.in_ok-put_synced.ensures.written tells1 ∙ ap (λ (l : List ℕ). written (c.other_gate-other.result + 1) l (S1.reads file)) numbers_are in
    let both2 = both_numbers file order area.old area.end on numbers area.gap area.image payloads p place (c.other_gate-other.result + 1) img (next_numbers file order area.old area.end on numbers area.gap area.image payloads p place) (S1.reads file) (S2.reads file) refl at_numbers both1 second in
    let turned_other = subst (λ (k : ℕ). LeavesOnly file S2 S3 (λ x. (h : ℕ) × (x ≡ set (S2.reads file) k h))) other_is (c.turn_gate.ensures.moments tells2) in
    let go3 = compose go2 (go_open file order area.old area.end on numbers area.gap area.image payloads p place img (S2.reads file) near small both2 S2 S3 refl c.turn_gate.ensures.run turned_other) (λ b k. k) in
    let tells3 = still_on c.turn_gate.ensures.run tells2 in
    let S4 = g.D.Disk.state c.turn_gate-2.new.disk in
    let third : S3.reads file ≡ gates_are file order area.old area.end on numbers area.gap area.image payloads p place img (S2.reads file) near small both2 1 1 =
    c.in_ok-turn_gate.ensures.turned tells2 ∙ ap (λ (k : ℕ). set (S2.reads file) k 1) other_is ∙ opened file order area.old area.end on numbers area.gap area.image payloads p place img (S2.reads file) near small both2 in
    let turned_this = subst (λ (k : ℕ). LeavesOnly file S3 S4 (λ x. (h : ℕ) × (x ≡ set (S3.reads file) k h))) this_is (c.turn_gate-2.ensures.moments tells3) in
    let go4 = compose go3 (go_close file order area.old area.end on numbers area.gap area.image payloads p place img (S2.reads file) near small both2 S3 S4 third c.turn_gate-2.ensures.run turned_this) (λ b k. k) in
    subst (λ a. LeavesOnly file S0 S4 (Always file (IsBetween (holding (Some (area_start a)) payloads) img))) (sym same) go4.moments

pub returns-clause-any_moment : goal.returns-clause-any_moment
returns-clause-any_moment g c tells area payloads whole names fits shut =
    let file = c.args.file in
    let end = c.args.end in
    let size = c.args.size in
    let now = c.args.now in
    let order : Bool = now.second in
    let place : ℕ = c.place_for-place.result in
    let S0 = g.D.Disk.state c.args.disk.now in
    let R : List ℕ = S0.reads file in
    let h = present_of file now area payloads whole names fits (omega arith) in
    let on : List ℕ = h.0 in
    let numbers : List ℕ = h.1 in
    let same = h.2 in
    let turn_is = h.3 in
    let p = h.4 in
    let present : Area = ordered order area.old area.end (1 ∷ on) (0 ∷ numbers) area.gap area.image in
    let shut_present : ShutAt (front_on (area_base file present) payloads) file end S0 = subst (λ a. ShutAt (front_on (area_base file a) payloads) file end S0) same shut in
    let lies = may_lie file now area payloads end place size whole names shut.place c.place_for-place.ensures.before c.place_for-place.ensures.behind in
    let long_front : end ≡ behind_both area.old + length area.gap + 8 + length area.image + length (frames payloads) = omega (arith, shut.place, end_at file area payloads whole.is.first whole.is.second) in
    let inside : end < length R = shut_place (front_on (area_base file area) payloads) file end S0 shut in
    let first : ℕ = g.I.Image.from c.args.image.now in
    let count : ℕ = g.I.Image.count c.args.image.now in
    let held : List ℕ = piece first count R in
    let img : List ℕ = g.I.Image.image c.args.image.now held in
    let long : size ≡ length img = c.requires.size held (piece_long first count R (omega (arith, c.requires.before tells, inside))) in
    let small : length img < 2 ^ 64 = omega (arith, long, c.requires.small) in
    let near : place < 2 ^ 64 = omega (arith, c.place_for-place.ensures.limit) in
    let S1 = g.D.Disk.state c.write_area.new.disk in
    let go1 = go_area file order area.old area.end on numbers area.gap area.image payloads p img place size end S0 S1 lies shut_present c.write_area.ensures.run (c.write_area.ensures.writes tells) in
    let writes1 = c.write_area.ensures.writes tells in
    let other_is : c.other_gate-other.result ≡ other_at order (8 + length (frames area.old) + 15) = c.other_gate-other.ensures ∙ ap (other_at order) names.selectors in
    let this_is : c.this_gate-this.result ≡ other_at (not order) (8 + length (frames area.old) + 15) = c.this_gate-this.ensures ∙ ap (other_at (not order)) names.selectors in
    let tells1 = still_on c.write_area.ensures.run tells in
    let S2 = g.D.Disk.state c.put_synced.new.disk in
    let numbers_are : c.numbers_of.result ≡ next_numbers file order area.old area.end on numbers area.gap area.image payloads p place =
    c.numbers_of.ensures ∙ ap (λ (k : ℕ). to_be_bytes w64 k ++ to_be_bytes w64 place) (c.turn_after-turn.ensures ∙ ap next_turn (sym turn_is)) in
    let at_numbers : c.other_gate-other.result + 1 ≡ other_at order (8 + length (frames area.old) + 15) + 1 = ap (λ (k : ℕ). k + 1) other_is in
    let kept1 = leaves_area file order area.old area.end on numbers area.gap area.image payloads p place size end S0 S1 lies shut_present (c.write_area.ensures.writes tells) in
    let go2 = compose go1 (go_numbers file order area.old area.end on numbers area.gap area.image payloads p img (c.other_gate-other.result + 1) (length c.numbers_of.result) S1 S2 at_numbers (ap length numbers_are) kept1 c.put_synced.ensures.run (c.put_synced.ensures.writes tells1)) (λ b k. k) in
    let tells2 = still_on c.put_synced.ensures.run tells1 in
    let S3 = g.D.Disk.state c.turn_gate.new.disk in
    let lies_long = subst (λ (k : ℕ). MayLie file order area.old area.end on numbers area.gap area.image payloads p place k) long lies in
    let both1 = both_area file order area.old area.end on numbers area.gap area.image payloads p place img R (S1.reads file) lies_long shut_present.reads (c.in_ok-write_area.ensures.written tells) in
    let second : S2.reads file ≡ written (c.other_gate-other.result + 1) (next_numbers file order area.old area.end on numbers area.gap area.image payloads p place) (S1.reads file) =
    c.in_ok-put_synced.ensures.written tells1 ∙ ap (λ (l : List ℕ). written (c.other_gate-other.result + 1) l (S1.reads file)) numbers_are in
    let both2 = both_numbers file order area.old area.end on numbers area.gap area.image payloads p place (c.other_gate-other.result + 1) img (next_numbers file order area.old area.end on numbers area.gap area.image payloads p place) (S1.reads file) (S2.reads file) refl at_numbers both1 second in
    let turned_other = subst (λ (k : ℕ). LeavesOnly file S2 S3 (λ x. (h : ℕ) × (x ≡ set (S2.reads file) k h))) other_is (c.turn_gate.ensures.moments tells2) in
    let go3 = compose go2 (go_open file order area.old area.end on numbers area.gap area.image payloads p place img (S2.reads file) near small both2 S2 S3 refl c.turn_gate.ensures.run turned_other) (λ b k. k) in
    let tells3 = still_on c.turn_gate.ensures.run tells2 in
    let S4 = g.D.Disk.state c.turn_gate-2.new.disk in
    let third : S3.reads file ≡ gates_are file order area.old area.end on numbers area.gap area.image payloads p place img (S2.reads file) near small both2 1 1 =
    c.in_ok-turn_gate.ensures.turned tells2 ∙ ap (λ (k : ℕ). set (S2.reads file) k 1) other_is ∙ opened file order area.old area.end on numbers area.gap area.image payloads p place img (S2.reads file) near small both2 in
    let turned_this = subst (λ (k : ℕ). LeavesOnly file S3 S4 (λ x. (h : ℕ) × (x ≡ set (S3.reads file) k h))) this_is (c.turn_gate-2.ensures.moments tells3) in
    let go4 = compose go3 (go_close file order area.old area.end on numbers area.gap area.image payloads p place img (S2.reads file) near small both2 S3 S4 third c.turn_gate-2.ensures.run turned_this) (λ b k. k) in
    subst (λ a. LeavesOnly file S0 S4 (Always file (IsBetween (holding (Some (area_start a)) payloads) img))) (sym same) go4.moments

pub returns-clause-moved : goal.returns-clause-moved
returns-clause-moved g c tells area payloads whole names fits shut =
    let file = c.args.file in
    let end = c.args.end in
    let size = c.args.size in
    let now = c.args.now in
    let order : Bool = now.second in
    let place : ℕ = c.place_for-place.result in
    let S0 = g.D.Disk.state c.args.disk.now in
    let R : List ℕ = S0.reads file in
    let h = present_of file now area payloads whole names fits (omega arith) in
    let on : List ℕ = h.0 in
    let numbers : List ℕ = h.1 in
    let same = h.2 in
    let turn_is = h.3 in
    let p = h.4 in
    let present : Area = ordered order area.old area.end (1 ∷ on) (0 ∷ numbers) area.gap area.image in
    let shut_present : ShutAt (front_on (area_base file present) payloads) file end S0 = subst (λ a. ShutAt (front_on (area_base file a) payloads) file end S0) same shut in
    let lies = may_lie file now area payloads end place size whole names shut.place c.place_for-place.ensures.before c.place_for-place.ensures.behind in
    let long_front : end ≡ behind_both area.old + length area.gap + 8 + length area.image + length (frames payloads) = omega (arith, shut.place, end_at file area payloads whole.is.first whole.is.second) in
    let inside : end < length R = shut_place (front_on (area_base file area) payloads) file end S0 shut in
    let first : ℕ = g.I.Image.from c.args.image.now in
    let count : ℕ = g.I.Image.count c.args.image.now in
    let held : List ℕ = piece first count R in
    let img : List ℕ = g.I.Image.image c.args.image.now held in
    let long : size ≡ length img = c.requires.size held (piece_long first count R (omega (arith, c.requires.before tells, inside))) in
    let small : length img < 2 ^ 64 = omega (arith, long, c.requires.small) in
    let near : place < 2 ^ 64 = omega (arith, c.place_for-place.ensures.limit) in
    let S1 = g.D.Disk.state c.write_area.new.disk in
    let go1 = go_area file order area.old area.end on numbers area.gap area.image payloads p img place size end S0 S1 lies shut_present c.write_area.ensures.run (c.write_area.ensures.writes tells) in
    let writes1 = c.write_area.ensures.writes tells in
    let other_is : c.other_gate-other.result ≡ other_at order (8 + length (frames area.old) + 15) = c.other_gate-other.ensures ∙ ap (other_at order) names.selectors in
    let this_is : c.this_gate-this.result ≡ other_at (not order) (8 + length (frames area.old) + 15) = c.this_gate-this.ensures ∙ ap (other_at (not order)) names.selectors in
    let tells1 = still_on c.write_area.ensures.run tells in
    let S2 = g.D.Disk.state c.put_synced.new.disk in
    let numbers_are : c.numbers_of.result ≡ next_numbers file order area.old area.end on numbers area.gap area.image payloads p place =
    c.numbers_of.ensures ∙ ap (λ (k : ℕ). to_be_bytes w64 k ++ to_be_bytes w64 place) (c.turn_after-turn.ensures ∙ ap next_turn (sym turn_is)) in
    let at_numbers : c.other_gate-other.result + 1 ≡ other_at order (8 + length (frames area.old) + 15) + 1 = ap (λ (k : ℕ). k + 1) other_is in
    let kept1 = leaves_area file order area.old area.end on numbers area.gap area.image payloads p place size end S0 S1 lies shut_present (c.write_area.ensures.writes tells) in
    let go2 = compose go1 (go_numbers file order area.old area.end on numbers area.gap area.image payloads p img (c.other_gate-other.result + 1) (length c.numbers_of.result) S1 S2 at_numbers (ap length numbers_are) kept1 c.put_synced.ensures.run (c.put_synced.ensures.writes tells1)) (λ b k. k) in
    let tells2 = still_on c.put_synced.ensures.run tells1 in
    let S3 = g.D.Disk.state c.turn_gate.new.disk in
    let lies_long = subst (λ (k : ℕ). MayLie file order area.old area.end on numbers area.gap area.image payloads p place k) long lies in
    let both1 = both_area file order area.old area.end on numbers area.gap area.image payloads p place img R (S1.reads file) lies_long shut_present.reads (c.in_ok-write_area.ensures.written tells) in
    let second : S2.reads file ≡ written (c.other_gate-other.result + 1) (next_numbers file order area.old area.end on numbers area.gap area.image payloads p place) (S1.reads file) =
    c.in_ok-put_synced.ensures.written tells1 ∙ ap (λ (l : List ℕ). written (c.other_gate-other.result + 1) l (S1.reads file)) numbers_are in
    let both2 = both_numbers file order area.old area.end on numbers area.gap area.image payloads p place (c.other_gate-other.result + 1) img (next_numbers file order area.old area.end on numbers area.gap area.image payloads p place) (S1.reads file) (S2.reads file) refl at_numbers both1 second in
    let turned_other = subst (λ (k : ℕ). LeavesOnly file S2 S3 (λ x. (h : ℕ) × (x ≡ set (S2.reads file) k h))) other_is (c.turn_gate.ensures.moments tells2) in
    let go3 = compose go2 (go_open file order area.old area.end on numbers area.gap area.image payloads p place img (S2.reads file) near small both2 S2 S3 refl c.turn_gate.ensures.run turned_other) (λ b k. k) in
    let tells3 = still_on c.turn_gate.ensures.run tells2 in
    let S4 = g.D.Disk.state c.turn_gate-2.new.disk in
    let third : S3.reads file ≡ gates_are file order area.old area.end on numbers area.gap area.image payloads p place img (S2.reads file) near small both2 1 1 =
    c.in_ok-turn_gate.ensures.turned tells2 ∙ ap (λ (k : ℕ). set (S2.reads file) k 1) other_is ∙ opened file order area.old area.end on numbers area.gap area.image payloads p place img (S2.reads file) near small both2 in
    let turned_this = subst (λ (k : ℕ). LeavesOnly file S3 S4 (λ x. (h : ℕ) × (x ≡ set (S3.reads file) k h))) this_is (c.turn_gate-2.ensures.moments tells3) in
    let go4 = compose go3 (go_close file order area.old area.end on numbers area.gap area.image payloads p place img (S2.reads file) near small both2 S3 S4 third c.turn_gate-2.ensures.run turned_this) (λ b k. k) in
    let next : List ℕ = next_numbers file order area.old area.end on numbers area.gap area.image payloads p place in
    let closed : S4.reads file ≡ set (S3.reads file) (other_at (not order) (8 + length (frames area.old) + 15)) 0 = c.in_ok-turn_gate-2.ensures.turned tells3 ∙ ap (λ (k : ℕ). set (S3.reads file) k 0) this_is in
    let bytes = now_bytes file order area.old area.end on numbers area.gap area.image payloads p place img (S2.reads file) near small both2 (S3.reads file) (S4.reads file) third closed in
    let stands = now_shut file area.old area.end on next both2.new_gap img both2.more order place S4 p.long_on refl both2.at bytes (c.in_ok-turn_gate-2.ensures.synced tells3) in
    let turn = turning file order area.old area.end on numbers area.gap area.image payloads p place img (S2.reads file) near small both2 in (
      now_on file order area.old area.end on numbers area.gap area.image payloads p place img (S2.reads file) near small both2,
      now_whole file order area.old area.end on numbers area.gap area.image payloads p place img (S2.reads file) near small both2,
      now_names file area.old area.end on next both2.new_gap img both2.more order _ names.selectors refl (c.turn_after-turn.ensures ∙ ap next_turn (sym turn_is) ∙ sym turn.turn) both2.at,
      image_of order area.old area.end (0 ∷ on) (1 ∷ next) both2.new_gap img,
      subst (λ (k : ℕ). ShutAt (area_base file (now_on file order area.old area.end on numbers area.gap area.image payloads p place img (S2.reads file) near small both2)) file k S4) (ap (λ (k : ℕ). place + 8 + k) (sym long)) stands,
    )

pub returns-in_err-turn_gate-clause-run : goal.returns-in_err-turn_gate-clause-run
returns-in_err-turn_gate-clause-run g c = run_then (run_then c.write_area.ensures.run c.put_synced.ensures.run) c.turn_gate.ensures.run

pub returns-in_err-turn_gate-2-clause-run : goal.returns-in_err-turn_gate-2-clause-run
returns-in_err-turn_gate-2-clause-run g c = run_then (run_then (run_then c.write_area.ensures.run c.put_synced.ensures.run) c.turn_gate.ensures.run) c.turn_gate-2.ensures.run

pub returns-clause-run : goal.returns-clause-run
returns-clause-run g c = run_then (run_then (run_then c.write_area.ensures.run c.put_synced.ensures.run) c.turn_gate.ensures.run) c.turn_gate-2.ensures.run
