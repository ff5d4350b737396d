use Rattle.enf_value.proofs.Vocabulary.{arith, length, ◌<◌, ◌∙◌, escaped, on_err_from}
use Rattle.enf_value.proofs.Parts.{byte_appended, part_of_flat_map, plain_appended}
use Rattle.enf_value.proofs.printing.print_front.Goals as goal

pub returns-then-plain-bytes-clause-ok : goal.returns-then-plain-bytes-clause-ok
returns-then-plain-bytes-clause-ok c =
    let bytes = c.args.bytes.now in
    let plain = c.front-plain.result.now in
    let before = c.args.out.now.items in
    let within : length plain < length bytes = omega arith in
    byte_appended bytes (length plain) before c.print_bytes.new.out.items c.print_escaped_byte.new.out.items within
    (plain_appended bytes plain before c.print_bytes.new.out.items c.front-plain.ensures c.in_ok-print_bytes.ensures.ok)
    c.in_ok-print_escaped_byte.ensures.ok

pub returns-clause-ok : goal.returns-clause-ok
returns-clause-ok c =
    plain_appended c.args.bytes.now c.front-plain.result.now c.args.out.now.items c.print_bytes.new.out.items c.front-plain.ensures c.in_ok-print_bytes.ensures.ok

pub returns-in_err-print_escaped_byte-clause-err : goal.returns-in_err-print_escaped_byte-clause-err
returns-in_err-print_escaped_byte-clause-err c =
    let bytes = c.args.bytes.now in
    let plain = c.front-plain.result.now in
    let before = c.args.out.now.items in
    on_err_from _ (part_of_flat_map escaped bytes (length plain) before c.print_escaped_byte.new.out.items
    (c.in_err-print_escaped_byte.ensures.err ∙ plain_appended bytes plain before c.print_bytes.new.out.items c.front-plain.ensures c.in_ok-print_bytes.ensures.ok))
