use Rattle.std.proofs.Common.{Some, option_map, ap, sym, ◌∙◌}
use Rattle.websocket.specs.Content.{Content, message_content, received_content}
use Rattle.websocket.specs.Connection.{read_step}
use Rattle.warp_web.specs.Web.{talk_of}
use Rattle.warp_web.proofs.TakenFrames.{answer_quiet, does_frame, does_frame_alone, is_read_of, read_role, rest_kept}
use Rattle.warp_web.proofs.web.Web.take_frame.Goals as goal

pub returns-in-None-clause-takes : goal.returns-in-None-clause-takes
returns-in-None-clause-takes c = λ server.
    let conn = c.args.self.now.context in
    let step = c.in-Ok-Complete.step in
    let input = c.read.new.input in
    let r = is_read_of (read_step conn c.args.bytes.now) input c.in-Ok-Complete.field-0 step conn c.read.new.self c.new-answer.result.items c.read.new.output.items
    c.in-Ok-Complete.field-0-is c.in-Ok-Complete.ensures.returns c.in-Ok-Complete.ensures.leaves in
    does_frame_alone (talk_of c.args.self.now) c.read.new.self step.consumed c.args.bytes.now input (option_map (received_content input) step.message)
    c.new-answer.result.items c.read.new.output.items r (ap (option_map (received_content input)) c.in-None.is) (rest_kept c.in-Ok-Complete.field-0 step c.args.bytes.now input c.in-Ok-Complete.field-0-is c.in-Ok-Complete.ensures.keeps_rest)

pub returns-in_ok-take_message-in-Some-clause-takes : goal.returns-in_ok-take_message-in-Some-clause-takes
returns-in_ok-take_message-in-Some-clause-takes c = λ server.
    let conn = c.args.self.now.context in
    let step = c.in-Ok-Complete.step in
    let input = c.read.new.input in
    let none = c.new-answer.result.items in
    let answer = c.read.new.output.items in
    let content = message_content c.message.result in
    let r = is_read_of (read_step conn c.args.bytes.now) input c.in-Ok-Complete.field-0 step conn c.read.new.self none answer
    c.in-Ok-Complete.field-0-is c.in-Ok-Complete.ensures.returns c.in-Ok-Complete.ensures.leaves in
    does_frame (talk_of c.args.self.now) (talk_of c.take_message.new.self) c.read.new.self step.consumed c.args.bytes.now input content
    (option_map (received_content input) step.message) none answer r
    (ap (option_map (received_content input)) c.in-Some.is ∙ ap (λ (m : Content). Some m) (sym c.message.ensures))
    (rest_kept c.in-Ok-Complete.field-0 step c.args.bytes.now input c.in-Ok-Complete.field-0-is c.in-Ok-Complete.ensures.keeps_rest)
    (c.in_ok-take_message-in-Some.ensures.does
    (answer_quiet conn c.read.new.self c.args.bytes.now step.consumed (option_map (received_content input) step.message) none answer c.new-answer.ensures.items r server)
    (read_role conn c.read.new.self c.args.bytes.now step.consumed (option_map (received_content input) step.message) none answer r server))
