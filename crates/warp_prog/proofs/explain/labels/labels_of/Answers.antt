-- Each list of the labels is the file's, and there is room for the numbers of its variables and cells.
use Rattle.std.proofs.Common.{ap, length, string_bytes, sym, ◌∙◌}
use Rattle.std.proofs.lemmas.List.{length-map}
use Rattle.warp_prog.specs.Explain.{arrays_from}
use Rattle.warp_prog.specs.View.{file_tree}
use Rattle.warp_prog.proofs.LabelLemmas.{labels_size}
use Rattle.warp_prog.proofs.RoomLemmas.{few_variables, have_room}
use Rattle.warp_prog.proofs.explain.labels.labels_of.Goals as goal

pub hidden_numbers-requires : goal.hidden_numbers-requires
hidden_numbers-requires c = rw c.deref-2.ensures.value (few_variables (file_tree c.args.file.now) c.requires)

pub array_labels-requires : goal.array_labels-requires
array_labels-requires c =
    let f = file_tree c.args.file.now in
    let labels = c.in_ok-inside.inside.variables in
    let shown = rw c.deref.ensures.value at c.in_ok-inside.ensures.variables in
    let size = c.len.ensures ∙ labels.ok.0 ∙ labels_size string_bytes labels.items f.reactors shown in
    rw (c.deref-3.ensures.value, size) (have_room f c.requires).cells

pub returns : goal.returns
returns c =
    let f = file_tree c.args.file.now in
    let inside = c.in_ok-inside.ensures in
    let labels = c.in_ok-inside.inside.variables in
    let variables = rw c.deref.ensures.value at inside.variables in
    let ports = rw c.deref.ensures.value at inside.ports in
    let actions = rw c.deref.ensures.value at inside.actions in
    let timers = rw c.deref.ensures.value at inside.timers in
    let hidden = rw c.deref-2.ensures.value at c.in_ok-hidden.ensures in
    let size = c.len.ensures ∙ labels.ok.0 ∙ sym (length-map labels.items string_bytes) ∙ ap length variables in
    let arrays = rw c.deref-3.ensures.value at c.in_ok-arrays.ensures in
    let from = ap (λ n. arrays_from n f.reactors) size in
    let reactors = rw c.deref-4.ensures.value at c.in_ok-reactors.ensures in
    let inputs = rw (c.deref-5.ensures.value, c.deref-6.ensures.value) at c.in_ok-inputs.ensures in
    let outputs = rw (c.deref-7.ensures.value, c.deref-8.ensures.value) at c.in_ok-outputs.ensures in
    λ i. record {
      reactors = reactors i;
      variables = variables i;
      hidden = hidden i;
      arrays = (arrays ∙ from) i;
      ports = ports i;
      actions = actions i;
      timers = timers i;
      inputs = inputs i;
      outputs = outputs i;
    }
