-- Document 01, "A sound take": a buffer is well-formed if it is laid out as the encoding of a model, and what it holds is well-formed.
use Rattle.std.specs.Prelude.{Bool, ◌&&◌}
use Rattle.buffer_layout.specs.declared.buffer.Buffer.{Buffer}
use Rattle.buffer_layout.specs.Layout.{laid_out, model}
use Rattle.buffer_layout.specs.Model.{fine}

unfoldable pub well_formed : Buffer → Bool
well_formed b = laid_out b && fine (model b)
