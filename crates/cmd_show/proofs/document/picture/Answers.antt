use Rattle.std.proofs.Common.{◌+◌, ◌*◌, ◌++◌, ◌∙◌, ap}
use Rattle.cmd_show.specs.Drawn.{document}
use Rattle.cmd_show.proofs.document.picture.Goals as goal

pub returns : goal.returns
returns c =
    let width = c.max-width.result in
    let height = c.args.drawn.now.rows * c.args.pixels.down + 24 in
    let drawn = c.deref.result.now in
    record {
      width = width;
      height = height;
      drawn = drawn;
      is = c.in_ok-append_document.ensures ∙ ap (λ text. text ++ document c.args.t.now width height drawn) c.new-text.ensures.items;
    }
