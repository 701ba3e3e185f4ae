use Rattle.std.proofs.Common.{ℕ, ◌+◌, ◌/◌, List, [], ap, arith, get_or}
use Rattle.aes_ctr.proofs.Blocks.{block_done}
use Rattle.aes_ctr.proofs.pieces.xor_eight_blocks.Goals as goal

pub returns-clause-done : goal.returns-clause-done
returns-clause-done c = λ old up_to_0.
    let made = c.eight_stream_blocks.ensures in
    let same_0 = up_to_0.same_length in
    let up_to_1 = block_done _ _ c.args.offset old c.args.bytes.now c.xor_lanes.new.bytes _ ((c.args.offset + c.args.at) / 16) c.args.at (c.args.at + 16)
    (omega (arith, c.requires.border)) (omega arith) (omega (arith, c.requires.room, same_0)) (ap (λ (blocks : List (List ℕ)). get_or blocks 0 []) made) c.xor_lanes.ensures up_to_0 in
    let up_to_2 = block_done _ _ c.args.offset old c.xor_lanes.new.bytes c.xor_lanes-2.new.bytes _ ((c.args.offset + c.args.at) / 16 + 1) (c.args.at + 16) (c.args.at + 32)
    (omega (arith, c.requires.border)) (omega arith) (omega (arith, c.requires.room, same_0, up_to_1.same_length)) (ap (λ (blocks : List (List ℕ)). get_or blocks 1 []) made) c.xor_lanes-2.ensures up_to_1 in
    let up_to_3 = block_done _ _ c.args.offset old c.xor_lanes-2.new.bytes c.xor_lanes-3.new.bytes _ ((c.args.offset + c.args.at) / 16 + 2) (c.args.at + 32) (c.args.at + 48)
    (omega (arith, c.requires.border)) (omega arith) (omega (arith, c.requires.room, same_0, up_to_2.same_length)) (ap (λ (blocks : List (List ℕ)). get_or blocks 2 []) made) c.xor_lanes-3.ensures up_to_2 in
    let up_to_4 = block_done _ _ c.args.offset old c.xor_lanes-3.new.bytes c.xor_lanes-4.new.bytes _ ((c.args.offset + c.args.at) / 16 + 3) (c.args.at + 48) (c.args.at + 64)
    (omega (arith, c.requires.border)) (omega arith) (omega (arith, c.requires.room, same_0, up_to_3.same_length)) (ap (λ (blocks : List (List ℕ)). get_or blocks 3 []) made) c.xor_lanes-4.ensures up_to_3 in
    let up_to_5 = block_done _ _ c.args.offset old c.xor_lanes-4.new.bytes c.xor_lanes-5.new.bytes _ ((c.args.offset + c.args.at) / 16 + 4) (c.args.at + 64) (c.args.at + 80)
    (omega (arith, c.requires.border)) (omega arith) (omega (arith, c.requires.room, same_0, up_to_4.same_length)) (ap (λ (blocks : List (List ℕ)). get_or blocks 4 []) made) c.xor_lanes-5.ensures up_to_4 in
    let up_to_6 = block_done _ _ c.args.offset old c.xor_lanes-5.new.bytes c.xor_lanes-6.new.bytes _ ((c.args.offset + c.args.at) / 16 + 5) (c.args.at + 80) (c.args.at + 96)
    (omega (arith, c.requires.border)) (omega arith) (omega (arith, c.requires.room, same_0, up_to_5.same_length)) (ap (λ (blocks : List (List ℕ)). get_or blocks 5 []) made) c.xor_lanes-6.ensures up_to_5 in
    let up_to_7 = block_done _ _ c.args.offset old c.xor_lanes-6.new.bytes c.xor_lanes-7.new.bytes _ ((c.args.offset + c.args.at) / 16 + 6) (c.args.at + 96) (c.args.at + 112)
    (omega (arith, c.requires.border)) (omega arith) (omega (arith, c.requires.room, same_0, up_to_6.same_length)) (ap (λ (blocks : List (List ℕ)). get_or blocks 6 []) made) c.xor_lanes-7.ensures up_to_6 in
    block_done _ _ c.args.offset old c.xor_lanes-7.new.bytes c.xor_lanes-8.new.bytes _ ((c.args.offset + c.args.at) / 16 + 7) (c.args.at + 112) (c.args.at + 128)
    (omega (arith, c.requires.border)) (omega arith) (omega (arith, c.requires.room, same_0, up_to_7.same_length)) (ap (λ (blocks : List (List ℕ)). get_or blocks 7 []) made) c.xor_lanes-8.ensures up_to_7
