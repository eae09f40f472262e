-- How the code's drawing stands for the definitions'.
use Rattle.drawing.specs.Drawing.{Drawing, drawn}
use Rattle.drawing.specs.declared.Drawing as Code

abbrev pub as_drawing : Code.Drawing → Drawing
as_drawing d = drawn d.count d.lines d.one d.two
