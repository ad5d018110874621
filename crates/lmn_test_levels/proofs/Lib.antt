mod LinkBounds
